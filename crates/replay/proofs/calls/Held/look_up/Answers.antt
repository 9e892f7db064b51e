-- A look-up that is refused tells of nobody, and of none.
use Prim.Native.Nat.{ℕ}
use mathlib.Core.Path.{◌≡◌, refl}
use mathlib.Core.Bool.{Bool, true, false}
use mathlib.Core.Logic.{◌⊎◌, inl, inr}
use Rattle.protocol.specs.declared.Finding.{Finding}
use Rattle.protocol.specs.Memory.{Number}
use Rattle.protocol.specs.State.{Station, looked_up}
use Rattle.protocol.specs.Order.{in_order}
use Rattle.protocol.specs.Calls.{unfound, finding_by, looking_up}
use Rattle.replay.proofs.calls.Held.look_up.Goals as goal

-- done, or no more than its answer
abbrev Told : Finding → Type 0
Told f = (f.answer ≡ 0) ⊎ (f ≡ unfound f.answer)

-- by whether the state is in order, and whether the number was found
told-by : (order found : Bool) (after asker hits : ℕ)
    → Told (finding_by order (record { found = found; after = after; asker = asker; hits = hits }))
told-by true true after asker hits = inl refl
told-by true false after asker hits = inr refl
told-by false found after asker hits = inr refl

told : (s : Station) (x : Number) → Told (looking_up s x)
unfolding looking_up
told s x = told-by (in_order s) (looked_up s x).found (looked_up s x).after (looked_up s x).asker (looked_up s x).hits

pub returns : goal.returns
returns c = rw c.look_up.ensures (told _ _)
