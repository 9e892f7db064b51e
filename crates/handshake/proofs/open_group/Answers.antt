-- A group that does not end is refused by its size, and one whose first line is not understood with 17.
use mathlib.Core.Path.{◌≡◌, refl, sym, ◌∙◌}
use Prim.Native.Nat.{◌<◌}
use native.Mathlib.Omega.{arith}
use Rattle.ascii.specs.Text.{is_text}
use Rattle.ascii.proofs.TextLaws.{all-run, not-all-run}
use Rattle.groups.specs.Lines.{group_length}
use Rattle.handshake.proofs.Behind.{length_in}
use Rattle.handshake.proofs.GroupLaws.{length-some, some-length, length-none, no-end-long, no-end-short, first-no-text}
use Rattle.handshake.proofs.GroupLaws.{first-no-start}
use Rattle.handshake.proofs.GroupLaws.{first-opened}
use Rattle.handshake.proofs.open_group.Goals.{In-Some, then-bytes-lt4096, else-bytes-lt4096}
use Rattle.handshake.proofs.open_group.Goals as goal

pub returns-in_default-clause-refused : goal.returns-in_default-clause-refused
returns-in_default-clause-refused c =
    let m = c.args.bytes.now in
    let none = length-none m _ c.group_length.ensures c.in_default.is in
    elim c.if-bytes-lt4096.branch [
      | then-bytes-lt4096 w ↦ no-end-short m none _ w.if-bytes-lt4096.true (rw w.result-is)
      | else-bytes-lt4096 w ↦ no-end-long m none _ w.if-bytes-lt4096.false (rw w.result-is)
    ]

-- a group has two bytes or more
size : (c : In-Some) → (group_length c.args.bytes.now ≡ c.in-Some.used) × (1 < c.in-Some.used)
size c =
    let m = c.args.bytes.now in
    let e = length-some m _ _ c.group_length.ensures c.in-Some.is in
    (e, omega (arith, e, (length_in m (some-length m _ _ c.group_length.ensures c.in-Some.is)).0))

pub overflow_sub-used : goal.overflow_sub-used
overflow_sub-used c = omega (arith, (size c).1)

pub returns-then-leading-first-clause-refused : goal.returns-then-leading-first-clause-refused
returns-then-leading-first-clause-refused c =
    let n = size (goal.at.returns-then-leading-first-clause-refused c).In-Some in
    first-no-text c.args.bytes.now c.front-lines.result.now c.line_at-first.result.now c.in-Some.used n.0
    c.front-lines.ensures c.line_at-first.ensures (λ z. omega (arith, n.1))
    (not-all-run is_text c.line_at-first.result.now (λ k. c.if-leading-first.true (c.leading.ensures ∙ k))) _ refl

pub returns-in_default-read_start-clause-refused : goal.returns-in_default-read_start-clause-refused
returns-in_default-read_start-clause-refused c =
    let n = size (goal.at.returns-in_default-read_start-clause-refused c).In-Some in
    first-no-start c.args.bytes.now c.front-lines.result.now c.line_at-first.result.now c.in-Some.used n.0
    c.front-lines.ensures c.line_at-first.ensures (λ z. omega (arith, n.1))
    (rw c.in_default-read_start.is at c.read_start.ensures) _ refl

pub returns-clause-opened : goal.returns-clause-opened
returns-clause-opened c =
    let n = size (goal.at.returns-clause-opened c).In-Some in
    first-opened c.args.bytes.now c.front-lines.result.now c.line_at-first.result.now c.in-Some.used n.0
    c.front-lines.ensures c.line_at-first.ensures _ refl
    (all-run is_text c.line_at-first.result.now (sym c.leading.ensures ∙ c.if-leading-first.false))
    (rw c.in-Some-read_start.is at c.read_start.ensures) c.after.ensures
