-- A part of a list that runs to the end.
use mathlib.Core.Path.{◌≡◌}
use mathlib.Core.List.{List}
use Prim.Native.Nat.{ℕ, ◌-◌}
use native.Mathlib.Nat.{le_of_eq}
use lib.ListN.{length, take, drop, length-drop}
use lib.Seq.{take_all}

-- what the code's `&l[a..]` holds
pub part_tail {ℓ} : {A : Type ℓ} (a : ℕ) (l : List A) → take (length l - a) (drop a l) ≡ drop a l
part_tail a l = take_all (length l - a) (drop a l) (le_of_eq (length-drop a l))
