-- A result at the front of some bytes: how long its parts are, what is read off bytes that were written, and that what
-- is read stands there.
use Prim.Native.Nat.{ℕ, zero, suc, ◌+◌, ◌≤◌, ◌<◌}
use mathlib.Core.Path.{◌≡◌, refl, sym, ap, ap₂, ◌∙◌}
use mathlib.Core.Bool.{Bool, true, false, cond}
use mathlib.Core.List.{List, [], ◌∷◌, ◌++◌, append_assoc}
use native.Mathlib.Omega.{arith}
use lib.Dec.{eqb, eqb-zero-suc, eqb-suc-zero}
use lib.ListN.{length, get_or, take, drop, length-append, length-drop, drop_of_length-le}
use lib.ListN.{take-append-drop}
use lib.Seq.{drop-drop, drop-append-add, get_or-drop, get_or-take}
use Rattle.std.specs.Int.{w32, from_le_bytes}
use borrow.Author.Tests.{ltb-true}
use Rattle.laws.specs.Bytes.{little, little_bytes}
use Rattle.laws.specs.Tests.{any}
use Rattle.laws.specs.Text.{until_zero}
use Rattle.laws.proofs.Refusals.{clash, and_fst, and_snd, and_intro}
use Rattle.laws.proofs.Words.{refuted}
use Rattle.laws.proofs.Passing.{bytes_back}
use Rattle.laws.proofs.Writing.{little-four, little_of_bytes}
use Rattle.laws.proofs.UntilZero.{until_stops, until_of, has-zero, ended}
use Rattle.hits.specs.Results.{HitResult, result_bytes, name_in, behind_name, extension_in, is_whole, result_size}
use Rattle.hits.specs.Results.{result_in}
use Rattle.hits.specs.Words.{Tellable, NoResult}
use Rattle.std.proofs.Common.{Some, None}
use Rattle.hits.specs.Reading.{zero_at, record_of}

-- ---- as the code reads

-- the number of the first four bytes
pub read_four : (d : List ℕ) → from_le_bytes w32 (take 4 d) ≡ little (take 4 d)
read_four d =
    let a : get_or (take 4 d) 0 0 ≡ get_or d 0 0 = get_or-take 4 d 0 0 (omega arith) in
    let b : get_or (take 4 d) 1 0 ≡ get_or d 1 0 = get_or-take 4 d 1 0 (omega arith) in
    let c : get_or (take 4 d) 2 0 ≡ get_or d 2 0 = get_or-take 4 d 2 0 (omega arith) in
    let e : get_or (take 4 d) 3 0 ≡ get_or d 3 0 = get_or-take 4 d 3 0 (omega arith) in
    omega (arith, little-four d)

-- no byte before a place is zero
abbrev pub NoneBefore : List ℕ → ℕ → Type 0
NoneBefore l n = (k : ℕ) → k < n → get_or l k 0 ≡ 0 → ⊥

tail-none : (b : ℕ) (l : List ℕ) (n : ℕ) → NoneBefore (b ∷ l) (suc n) → NoneBefore l n
tail-none b l n f k h e = f (suc k) (omega arith) e

-- the first zero byte is at a place, or there is none
pub zero_here : (l : List ℕ) (n : ℕ) → n < length l → NoneBefore l n → get_or l n 0 ≡ 0
    → (any (eqb 0) l ≡ true) × (length (until_zero l) ≡ n)
unfolding until_zero
zero_here [] n h f e = absurd (omega arith)
zero_here (b ∷ l) zero h f e =
    let z : b ≡ 0 = e in
    rw z (refl, refl)
zero_here (zero ∷ l) (suc n) h f e = absurd (f 0 (omega arith) refl)
zero_here (suc b ∷ l) (suc n) h f e =
    let t = zero_here l n (omega arith) (tail-none (suc b) l n f) e in
    rw (eqb-zero-suc b, eqb-suc-zero b) (t.0, ap suc t.1)

pub zero_nowhere : (l : List ℕ) → NoneBefore l (length l) → any (eqb 0) l ≡ false
zero_nowhere [] f = refl
zero_nowhere (zero ∷ l) f = absurd (f 0 (omega arith) refl)
zero_nowhere (suc b ∷ l) f = rw (eqb-zero-suc b) (zero_nowhere l (tail-none (suc b) l (length l) f))

-- what the place of the first zero byte tells, and that there is none
pub zero_some : (l : List ℕ) (n : ℕ) → zero_at l ≡ Some n
    → (any (eqb 0) l ≡ true) × (length (until_zero l) ≡ n) × (n < length l)
zero_some l n e = by (any (eqb 0) l) refl e
  where
    by : (t : Bool) → any (eqb 0) l ≡ t → cond t (Some (length (until_zero l))) None ≡ Some n
        → (any (eqb 0) l ≡ true) × (length (until_zero l) ≡ n) × (n < length l)
    by true h e =
        let is : length (until_zero l) ≡ n = cc in
        (h, is, omega (arith, ltb-true (length (until_zero l)) (length l) (sym (until_stops l) ∙ h)))
    by false h e = cc

pub zero_none : (l : List ℕ) → zero_at l ≡ None → any (eqb 0) l ≡ false
zero_none l e = by (any (eqb 0) l) e
  where
    by : (t : Bool) → cond t (Some (length (until_zero l))) None ≡ None → t ≡ false
    by true e = cc
    by false e = refl

-- what stands behind a name that is ended
behind-rest : (d : List ℕ) (n : ℕ) → drop (n + 1) (drop 8 d) ≡ drop (9 + n) d
behind-rest d n = let e : 8 + (n + 1) ≡ 9 + n = omega arith in drop-drop (n + 1) 8 d ∙ ap (λ k. drop k d) e

module _ (at : ℕ) (d : List ℕ) where
  not-ended : any (eqb 0) (drop 8 d) ≡ false → record_of at d ≡ None
  unfolding is_whole
  not-ended e = rw e

  -- no room for the numbers
  pub no_numbers : length d < 8 → record_of at d ≡ None
  no_numbers h = not-ended (ap (any (eqb 0)) (drop_of_length-le d {i = 8} (omega arith)))

  -- the name is not ended
  pub no_name : zero_at (drop 8 d) ≡ None → record_of at d ≡ None
  no_name e = not-ended (zero_none (drop 8 d) e)

  module _ (n : ℕ) (e : zero_at (drop 8 d) ≡ Some n) where
    pub behind_is : drop (n + 1) (drop 8 d) ≡ behind_name d
    behind_is = behind-rest d n ∙ ap (λ k. drop (9 + k) d) (sym (zero_some (drop 8 d) n e).1)

    -- nor its extension
    pub no_extension : zero_at (behind_name d) ≡ None → record_of at d ≡ None
    unfolding is_whole
    no_extension f = rw ((zero_some (drop 8 d) n e).0, zero_none (behind_name d) f)

    pub record_is : (m : ℕ) → zero_at (behind_name d) ≡ Some m
        → Some record {
          index = little (take 4 d);
          size = little (take 4 (drop 4 d));
          nameat = at + 8;
          namelen = n;
          extat = at + 9 + n;
          extlen = m;
        } ≡ record_of at d
    unfolding is_whole
    record_is m f =
        let name = zero_some (drop 8 d) n e in
        let extension = zero_some (behind_name d) m f in
        rw (name.0, extension.0, extension.1, name.1)

-- a whole result is no longer than the bytes
pub whole-fits : (d : List ℕ) → is_whole d ≡ true → result_size d ≤ length d
unfolding is_whole
whole-fits d e =
    let name : length (name_in d) < length (drop 8 d) =
    ltb-true _ _ (sym (until_stops (drop 8 d)) ∙ and_fst (any (eqb 0) (drop 8 d)) (any (eqb 0) (behind_name d)) e) in
    let extension : length (extension_in d) < length (behind_name d) =
    ltb-true _ _
    (sym (until_stops (behind_name d)) ∙ and_snd (any (eqb 0) (drop 8 d)) (any (eqb 0) (behind_name d)) e) in
    omega (arith, length-drop 8 d, length-drop (9 + length (name_in d)) d)

-- ---- bytes that were written

pub result-length : (r : HitResult) → length (result_bytes r) ≡ 10 + (length r.name + length r.extension)
unfolding result_bytes
result-length r = simp length-append (omega arith)

-- a result and what follows it, as one row of parts
pub joined : (r : HitResult) (rest : List ℕ)
    → result_bytes r ++ rest
    ≡ little_bytes 4 r.index ++ (little_bytes 4 r.size ++ (r.name ++ (0 ∷ (r.extension ++ (0 ∷ rest)))))
unfolding result_bytes
joined r rest =
    ap (λ l. little_bytes 4 r.index ++ (little_bytes 4 r.size ++ l))
    (append_assoc r.name (0 ∷ (r.extension ++ (0 ∷ []))) rest
    ∙ ap (λ l. r.name ++ (0 ∷ l)) (append_assoc r.extension (0 ∷ []) rest))

module _ (r : HitResult) (rest : List ℕ) where
  pub behind-numbers : drop 8 (result_bytes r ++ rest) ≡ r.name ++ (0 ∷ (r.extension ++ (0 ∷ rest)))
  behind-numbers = ap (drop 8) (joined r rest)

  pub behind-zero : drop (9 + length r.name) (result_bytes r ++ rest) ≡ r.extension ++ (0 ∷ rest)
  behind-zero =
      sym (behind-rest (result_bytes r ++ rest) (length r.name))
      ∙ ap (drop (length r.name + 1)) behind-numbers
      ∙ drop-append-add r.name (0 ∷ (r.extension ++ (0 ∷ rest))) 1

  -- where it can be told, it is read back
  module _ (t : Tellable r) where
    pub read-index : little (take 4 (result_bytes r ++ rest)) ≡ r.index
    read-index = ap (λ l. little (take 4 l)) (joined r rest) ∙ little_of_bytes r.index t.index

    pub read-size : little (take 4 (drop 4 (result_bytes r ++ rest))) ≡ r.size
    read-size = ap (λ l. little (take 4 (drop 4 l))) (joined r rest) ∙ little_of_bytes r.size t.size

    pub read_name : name_in (result_bytes r ++ rest) ≡ r.name
    read_name = ap until_zero behind-numbers ∙ until_of r.name (r.extension ++ (0 ∷ rest)) t.name

    behind-name : behind_name (result_bytes r ++ rest) ≡ r.extension ++ (0 ∷ rest)
    behind-name = ap (λ n. drop (9 + length n) (result_bytes r ++ rest)) read_name ∙ behind-zero

    pub read-extension : extension_in (result_bytes r ++ rest) ≡ r.extension
    read-extension = ap until_zero behind-name ∙ until_of r.extension rest t.extension

    pub read_whole : is_whole (result_bytes r ++ rest) ≡ true
    unfolding is_whole
    read_whole =
        and_intro _ _ (ap (any (eqb 0)) behind-numbers ∙ has-zero r.name (r.extension ++ (0 ∷ rest)))
        (ap (any (eqb 0)) behind-name ∙ has-zero r.extension rest)

    pub read_length : result_size (result_bytes r ++ rest) ≡ length (result_bytes r)
    read_length =
        ap₂ (λ a b. 10 + (length a + length b)) read_name read-extension ∙ sym (result-length r)

-- ---- bytes that are read

-- every byte below 256, by place
abbrev pub Small : List ℕ → Type 0
Small d = (i : ℕ) → get_or d i 0 < 256

four-small : (d : List ℕ) → Small d → little (take 4 d) < 4294967296
four-small d w = omega (arith, little-four d, w 0, w 1, w 2, w 3)

pub drop-small : (k : ℕ) (d : List ℕ) → Small d → Small (drop k d)
drop-small k d w i = rw get_or-drop (w (k + i))

-- bytes that begin with a result
pub record Begins (d : List ℕ) : Type 0 where
  pub result : HitResult
  pub rest : List ℕ
  pub tellable : Tellable result
  pub is : d ≡ result_bytes result ++ rest

pub whole-begins : (d : List ℕ) → Small d → is_whole d ≡ true → Begins d
unfolding is_whole
whole-begins d w e =
    let name = ended (drop 8 d) (and_fst (any (eqb 0) (drop 8 d)) (any (eqb 0) (behind_name d)) e) in
    let extension = ended (behind_name d) (and_snd (any (eqb 0) (drop 8 d)) (any (eqb 0) (behind_name d)) e) in
    let long = whole-fits d e in
    let behind : name.rest ≡ behind_name d =
    sym (drop-append-add (name_in d) (0 ∷ name.rest) 1) ∙ ap (drop (length (name_in d) + 1)) (sym name.is)
    ∙ behind-rest d (length (name_in d)) in
    let tail : drop 8 d ≡ name_in d ++ (0 ∷ (extension_in d ++ (0 ∷ extension.rest))) =
    name.is ∙ ap (λ l. name_in d ++ (0 ∷ l)) (behind ∙ extension.is) in
    let low : take 4 d ≡ little_bytes 4 (little (take 4 d)) = sym (bytes_back 4 d (omega arith) w) in
    let high : take 4 (drop 4 d) ≡ little_bytes 4 (little (take 4 (drop 4 d))) =
    sym (bytes_back 4 (drop 4 d) (omega (arith, length-drop 4 d)) (drop-small 4 d w)) in
    record {
      result = result_in d;
      rest = extension.rest;
      tellable =
          record {
            index = four-small d w;
            size = four-small (drop 4 d) (drop-small 4 d w);
            name = name.no_zero;
            extension = extension.no_zero;
          };
      is =
          sym (take-append-drop 4 d)
          ∙ ap₂ (λ x y. x ++ y) low
          (sym (take-append-drop 4 (drop 4 d)) ∙ ap₂ (λ x y. x ++ y) high (drop-drop 4 4 d ∙ tail))
          ∙ sym (joined (result_in d) extension.rest);
    }

-- no result stands at the front exactly where there is no whole one
pub not-whole : (d : List ℕ) → is_whole d ≡ false → NoResult d
not-whole d e r rest t is = clash (ap is_whole is ∙ read_whole r rest t) e

pub none-whole : (d : List ℕ) → Small d → NoResult d → is_whole d ≡ false
none-whole d w n =
    refuted (is_whole d) (λ e. let b = whole-begins d w e in n b.result b.rest b.tellable b.is)
