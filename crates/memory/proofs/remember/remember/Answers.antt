-- Taken, it is stored place by place.
use Prim.Native.Nat.{◌+◌, min}
use mathlib.Core.Path.{◌≡◌}
use native.Mathlib.Nat.{mod-add-mod}
use native.Mathlib.Omega.{arith}
use Rattle.protocol.specs.Memory.{remember}
use Rattle.memory.proofs.remember.remember.Goals as goal

pub returns-then-taken : goal.returns-then-taken
unfolding remember
returns-then-taken c =
    let a = c.args in
    let e = c.if-taken.true in
    let kept : c.min.result ≡ min 512 (a.count.now + 1) = omega (arith, c.min.ensures, c.saturating_add.ensures) in
    rw (e, kept, mod-add-mod a.next.now 512 1)
