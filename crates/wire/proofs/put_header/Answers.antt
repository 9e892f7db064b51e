-- With room for it the header is written in three parts, each of just so many bytes.
use mathlib.Core.Path.{◌∙◌}
use native.Mathlib.Omega.{arith}
use borrow.Author.Tests.{lt-leb}
use Rattle.wire.specs.Header.{with_header}
use Rattle.wire.proofs.NumberLaws.{bytes-four}
use Rattle.wire.proofs.HeaderLaws.{header-stored}
use Rattle.wire.proofs.put_header.Goals as goal

pub returns-then-out-lt-HEADER_SIZE : goal.returns-then-out-lt-HEADER_SIZE
unfolding with_header
returns-then-out-lt-HEADER_SIZE c = simp (lt-leb _ _ c.if-out-lt-HEADER_SIZE.true)

pub returns : goal.returns
returns c =
    let x = c.args in
    let stored = header-stored x.number x.out.now c.copy_from_slice-3.new.self x.kind x.ttl x.hops x.size
    (omega arith)
    (omega arith)
    (c.copy_from_slice-3.ensures.after ∙ c.to_le_bytes.ensures ∙ bytes-four x.size) in
    cc (c.copy_from_slice.ensures.after, c.copy_from_slice-2.ensures.after, stored)
