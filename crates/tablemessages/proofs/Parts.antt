-- Data in parts: the parts joined are the data, and none is longer than the size. Assumes nothing.
use Prim.Native.Nat.{ℕ, zero, suc, ◌≤◌}
use mathlib.Core.Path.{◌≡◌, refl}
use mathlib.Core.List.{List, [], ◌∷◌}
use native.Mathlib.Omega.{arith}
use native.Mathlib.Nat.{le_refl}
use lib.ListN.{length, drop, length-take, length-drop, take-append-drop}
use Rattle.laws.proofs.Chunks.{Each}
use Rattle.tablemessages.specs.Writer.{chunks, parts_of, joined}

chunks-joined : (n size : ℕ) (d : List ℕ) → 1 ≤ size → length d ≤ n → joined (chunks n size d) ≡ d
unfolding chunks joined
chunks-joined zero size [] p h = refl
chunks-joined zero size (b ∷ bs) p h = absurd (omega arith)
chunks-joined (suc n) size [] p h = refl
chunks-joined (suc n) size (b ∷ bs) p h =
    let shorter : length (drop size (b ∷ bs)) ≤ n = rw (length-drop size (b ∷ bs)) (omega arith) in
    rw (chunks-joined n size (drop size (b ∷ bs)) p shorter) (take-append-drop size (b ∷ bs))

pub parts-joined : (size : ℕ) (d : List ℕ) → 1 ≤ size → joined (parts_of size d) ≡ d
parts-joined size d p = chunks-joined (length d) size d p (le_refl (length d))

pub part-sizes : (n size : ℕ) (d : List ℕ) → Each (λ p. length p ≤ size) (chunks n size d)
unfolding chunks
part-sizes zero size d = tt
part-sizes (suc n) size [] = tt
part-sizes (suc n) size (b ∷ bs) =
    (rw (length-take size (b ∷ bs)) (omega arith), part-sizes n size (drop size (b ∷ bs)))
