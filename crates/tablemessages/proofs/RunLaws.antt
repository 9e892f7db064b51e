-- Data in parts, and the messages that carry them.
use Prim.Native.Nat.{ℕ, zero, suc, ◌+◌, ◌-◌, ◌*◌, ◌/◌, ◌≤◌, ◌<◌}
use mathlib.Core.Path.{◌≡◌, refl, sym, ap, ◌∙◌}
use mathlib.Core.List.{List, [], ◌∷◌, ◌++◌}
use native.Mathlib.Nat.{div-eq_of_lt, div-eq-sub-div}
use native.Mathlib.Numerals.{add-one}
use native.Mathlib.Decide.{dec_le}
use native.Mathlib.Omega.{arith}
use lib.ListN.{length, take, drop, length-append, length-drop, take-append-drop}
use Rattle.wire.proofs.HeaderLaws.{message-length}
use Rattle.tablemessages.specs.Writer.{chunks, parts_of, run_from, joined, update, patch_payload}

-- a part off n bytes leaves one part less
one_less : (size n r : ℕ) → 1 ≤ size → 1 ≤ n → r ≡ n - size → suc ((r + size - 1) / size) ≡ (n + size - 1) / size
one_less size n r h k e = sym (div-eq-sub-div h (omega arith) ∙ add-one ((n + size - 1 - size) / size)
    ∙ ap suc (same (dec_le size n)))
  where
    same : Dec (size ≤ n) → (n + size - 1 - size) / size ≡ (r + size - 1) / size
    same (yes l) = ap (λ x. x / size) (omega arith)
    same (no l) = div-eq_of_lt (omega arith) ∙ sym (div-eq_of_lt (omega arith))

module _ (size : ℕ) (some : 1 ≤ size) where
  -- more parts allowed than there is data for change nothing
  pub enough : (n m : ℕ) (d : List ℕ) → length d ≤ n → length d ≤ m → chunks n size d ≡ chunks m size d
  unfolding chunks
  enough zero zero d h k = refl
  enough zero (suc m) [] h k = refl
  enough zero (suc m) (b ∷ bs) h k = absurd (omega arith)
  enough (suc n) zero [] h k = refl
  enough (suc n) zero (b ∷ bs) h k = absurd (omega arith)
  enough (suc n) (suc m) [] h k = refl
  enough (suc n) (suc m) (b ∷ bs) h k =
      let l = length-drop size (b ∷ bs) in
      ap (λ r. take size (b ∷ bs) ∷ r) (enough n m (drop size (b ∷ bs)) (omega arith) (omega arith))

  -- the first part, and the rest of the data in parts
  pub parts_next : (d : List ℕ) → 0 < length d → parts_of size d ≡ take size d ∷ parts_of size (drop size d)
  unfolding chunks
  parts_next [] h = absurd (omega arith)
  parts_next (b ∷ bs) h =
      let l = length-drop size (b ∷ bs) in
      ap (λ r. take size (b ∷ bs) ∷ r) (enough (length bs) (length (drop size (b ∷ bs))) (drop size (b ∷ bs))
      (omega arith) (omega arith))

  -- how many parts: the data's bytes by `size`, rounded up
  pub parts-count : (n : ℕ) (d : List ℕ) → length d ≤ n → length (chunks n size d) ≡ (length d + size - 1) / size
  unfolding chunks
  parts-count zero [] h = sym (div-eq_of_lt (omega arith))
  parts-count zero (b ∷ bs) h = absurd (omega arith)
  parts-count (suc n) [] h = sym (div-eq_of_lt (omega arith))
  parts-count (suc n) (b ∷ bs) h =
      let l = length-drop size (b ∷ bs) in
      ap suc (parts-count n (drop size (b ∷ bs)) (omega arith)) ∙ one_less size (length (b ∷ bs))
      (length (drop size (b ∷ bs))) some (omega arith) l

  -- the parts, joined, are the data
  pub parts-joined : (n : ℕ) (d : List ℕ) → length d ≤ n → joined (chunks n size d) ≡ d
  unfolding chunks joined
  parts-joined zero [] h = refl
  parts-joined zero (b ∷ bs) h = absurd (omega arith)
  parts-joined (suc n) [] h = refl
  parts-joined (suc n) (b ∷ bs) h =
      let l = length-drop size (b ∷ bs) in
      ap (λ r. take size (b ∷ bs) ++ r) (parts-joined n (drop size (b ∷ bs)) (omega arith))
      ∙ take-append-drop size (b ∷ bs)

-- a run's bytes: 28 for each message, and the data
pub run_length : (number : List ℕ) (size bits place : ℕ) (ds : List (List ℕ)) → length number ≡ 16
    → length (joined (run_from number place size bits ds)) ≡ 28 * length ds + length (joined ds)
unfolding run_from joined
run_length number size bits place [] h = refl
run_length number size bits place (d ∷ ds) h =
    length-append (update number (patch_payload place size bits d)) (joined (run_from number (suc place) size bits ds))
    ∙ omega (
      arith,
      length-append d (joined ds),
      message-length number 0x30 1 0 (patch_payload place size bits d) h,
      run_length number size bits
          (suc place) ds h,
    )
