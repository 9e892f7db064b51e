-- Laws of the tests of an event file.
use Prim.Native.Nat.{ℕ, zero, suc, ◌+◌, ◌-◌, ◌*◌, ◌≤◌, ◌<◌}
use mathlib.Core.Path.{◌≡◌, refl, ap}
use mathlib.Core.Bool.{Bool, true, ◌&&◌}
use mathlib.Core.List.{List, [], ◌∷◌}
use native.Mathlib.Omega.{arith}
use borrow.Author.Tests.{leb-true, eqb-true}
use lib.Dec.{leb, eqb}
use lib.ListN.{length}
use Rattle.std.specs.List.{list_all, range_with_len}
use Rattle.laws.specs.Tests.{every, all}
use Rattle.laws.proofs.Refusals.{and_fst, and_snd}
use Rattle.transcript.specs.Files.{count_of, offset_of, count_from, longest, good_offsets}

-- ---- the events from i on

pub count_next : (i n : ℕ) → i < n → count_from i (n - i) ≡ i ∷ count_from (i + 1) (n - (i + 1))
count_next i n h = let e : n - i ≡ suc (n - (i + 1)) = omega arith in ap (count_from i) e

pub count-end : (i n : ℕ) → n ≤ i → count_from i (n - i) ≡ []
count-end i n h = let e : n - i ≡ 0 = omega arith in ap (count_from i) e

-- the library's test of a range of numbers
pub all_in_range : (f : ℕ → Bool) (n a : ℕ) → list_all f (range_with_len a n) ≡ all f (count_from a n)
all_in_range f zero a = refl
all_in_range f (suc n) a = ap (λ b. f a && b) (all_in_range f n (a + 1))

-- ---- the whole file

module _ (file : List ℕ) (e : good_offsets file ≡ true) where
  tests : every (leb (length file) longest ∷ leb 8 (length file) ∷ leb (8 + 4 * count_of file) (length file)
      ∷ eqb (offset_of file 0) (8 + 4 * count_of file) ∷ eqb (offset_of file (count_of file)) (length file) ∷ []) ≡ true
  unfolding good_offsets
  tests = e

  pub offsets-fit : length file ≤ longest
  offsets-fit = leb-true (length file) longest (and_fst (leb (length file) longest) _ tests)

  pub offsets-room : 8 + 4 * count_of file ≤ length file
  offsets-room =
      leb-true (8 + 4 * count_of file) (length file)
      (and_fst (leb (8 + 4 * count_of file) (length file)) _
      (and_snd (leb 8 (length file)) _ (and_snd (leb (length file) longest) _ tests)))

  pub offsets-first : offset_of file 0 ≡ 8 + 4 * count_of file
  offsets-first =
      eqb-true (offset_of file 0) (8 + 4 * count_of file)
      (and_fst (eqb (offset_of file 0) (8 + 4 * count_of file)) _ (and_snd (leb (8 + 4 * count_of file) (length file)) _
      (and_snd (leb 8 (length file)) _ (and_snd (leb (length file) longest) _ tests))))

  pub offsets-last : offset_of file (count_of file) ≡ length file
  offsets-last =
      eqb-true (offset_of file (count_of file)) (length file)
      (and_fst (eqb (offset_of file (count_of file)) (length file)) _
      (and_snd (eqb (offset_of file 0) (8 + 4 * count_of file)) _ (and_snd (leb (8 + 4 * count_of file) (length file)) _
      (and_snd (leb 8 (length file)) _ (and_snd (leb (length file) longest) _ tests)))))
