-- Off the bytes where none are held, off the held area where the header stands there, and else off the first 23.
-- Assumes nothing.
use native.Mathlib.Omega.{arith}
use mathlib.Core.Path.{sym, ap, ◌∙◌}
use mathlib.Core.List.{◌++◌}
use lib.ListN.{take}
use Rattle.wire.specs.Header.{header_in}
use Rattle.intake.proofs.HeaderLaws.{header-ahead, header_padded}
use Rattle.intake.proofs.joining.joined_header.Goals as goal

pub returns-then-count-eq0 : goal.returns-then-count-eq0
returns-then-count-eq0 c =
    let a = c.args in
    c.read_header.ensures
    ∙ sym (ap (λ n. header_in (take n a.held.now ++ a.bytes.now)) c.if-count-eq0.true)

pub returns-then-min-ge-HEADER_SIZE : goal.returns-then-min-ge-HEADER_SIZE
returns-then-min-ge-HEADER_SIZE c =
    let a = c.args in
    c.read_header-then-min-ge-HEADER_SIZE.ensures
    ∙ sym (header-ahead a.count a.held.now a.bytes.now (omega arith) (omega arith))

pub returns : goal.returns
returns c =
    let a = c.args in
    c.read_header-2.ensures ∙ ap header_in c.first_bytes.ensures
    ∙ header_padded (take a.count a.held.now ++ a.bytes.now) 23
