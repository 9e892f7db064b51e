-- The digits counted make the version that stands at the front.
use Prim.Native.Nat.{◌+◌}
use mathlib.Core.Path.{◌≡◌, ◌∙◌}
use native.Mathlib.Omega.{arith}
use borrow.Author.Tests.{ne_eqb}
use Rattle.groups.specs.Start.{version_length}
use Rattle.groups.proofs.start.read_version.Goals as goal

pub returns : goal.returns
returns c =
    let a = c.leading_number-a in
    let b = c.leading_number-b in
    let parts : version_length a.result.count c.byte_at.result b.result.count a.result.value b.result.value
    ≡ a.result.count + 1 + b.result.count = c.is_version.ensures ∙ rw c.if-not-is_version.false in
    let long = ne_eqb (a.result.count + 1 + b.result.count) 0 (λ k. omega arith) in
    let e = rw (b.ensures, c.after.ensures, c.byte_at.ensures, a.ensures) at parts in
    let z = rw (b.ensures, c.after.ensures, a.ensures) at long in
    rw (b.ensures, c.after.ensures, a.ensures, e, z)
