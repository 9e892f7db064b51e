-- The digits that are left are those of m, and the last of them is before place i.
use Rattle.digits.proofs.Spelling.{spelling_start, spelling_back, spelling_on, spelling_room}
use Rattle.digits.proofs.Spelling.{spelling_end}
use Prim.Native.Nat.{ℕ}
use mathlib.Core.Path.{ap₂}
use mathlib.Core.List.{List}
use lib.ListN.{replicate}
use Rattle.digits.specs.declared.Digits.{Digits}
use native.Mathlib.Omega.{arith}
use Rattle.digits.proofs.spell.Goals as goal

abbrev made : ℕ → List ℕ → Digits
made k bs = record { size = k; bytes = bs }

pub loop-m-init : goal.loop-m-init
loop-m-init c = spelling_start (replicate 5 0) c.args.n _ (omega arith) c.size-size.ensures.0
    (omega (arith, c.size-size.ensures.1))

pub overflow_sub-i : goal.overflow_sub-i
overflow_sub-i c = spelling_back c.loop-m.invariant c.loop-m-test.true

pub bounds-bytes-i : goal.bounds-bytes-i
bounds-bytes-i c =
    omega (
      arith,
      spelling_back c.loop-m.invariant
          c.loop-m-test.true,
      c.loop-m.invariant.room,
      c.loop-m.invariant.size,
    )

pub loop-m-preserved : goal.loop-m-preserved
loop-m-preserved c = rw c.last_digit.ensures (spelling_on c.loop-m.invariant c.loop-m-test.true)

pub bounds-bytes-0 : goal.bounds-bytes-0
bounds-bytes-0 c = omega (arith, spelling_room c.loop-m.invariant)

pub returns : goal.returns
returns c =
    let last = rw (← c.last_digit-2.ensures) at (spelling_end c.loop-m.invariant (omega arith)) in
    record {
      number = ap₂ made c.size-size.ensures.0 last;
      few = c.size-size.ensures.1;
    }
