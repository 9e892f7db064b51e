-- The answers of a call, and the bytes that it leaves, in words.
use Prim.Native.Nat.{ℕ, ◌+◌, ◌^◌, ◌≤◌, ◌<◌}
use mathlib.Core.Path.{◌≡◌, refl, sym, ap, ◌∙◌}
use mathlib.Core.Bool.{Bool, true, false, not, ◌&&◌, false≢true}
use mathlib.Core.Logic.Iff
use mathlib.Core.Logic.{◌↔◌, ◌⊎◌, inl, inr, ⊎_elim}
use mathlib.Core.List.{List, [], ◌∷◌}
use native.Mathlib.Omega.{arith}
use lib.Dec.{eqb, leb, ltb}
use lib.ListN.{length, get_or}
use lib.Seq.{get_or-take}
use borrow.Author.Tests.{eqb-true, eqb-false, eq-eqb}
use Rattle.laws.specs.Tests.{any, first_of}
use Rattle.laws.proofs.Refusals.{and_fst, and_snd, or_split, or_left, or_right}
use Rattle.laws.proofs.Fronts.{front-refused, front_read, front-behind, front_long}
use Rattle.laws.proofs.Words.{and_iff, none_iff, some_iff, no_iff, yes_iff, most_iff, less_iff, not-less_iff}
use Rattle.laws.proofs.Words.{first_iff, past_iff}
use Rattle.tables.specs.Tables.{lengths, good_length, good_infinity}
use Rattle.namearea.specs.Area.{names_in}
use Rattle.namearea.specs.Good.{good_list}
use Rattle.nametable.specs.Table.{own_entries, table_answer, table_out}
use Rattle.nametable.specs.Words.{FallsOn, Entry, Sound, Carried, TableRefusals, TableLeaves}
use Rattle.nametable.specs.Words.{TableTold}
use Rattle.nametable.proofs.TableLaws.{entries-length, own_rules}
use Rattle.nametable.proofs.Words.{table-exactly}

-- ---- the lengths

-- 2 to the power b, b + 1 and so on
abbrev powers_from : ℕ → List ℕ → Bool
powers_from b [] = true
powers_from b (x ∷ xs) = eqb x (2 ^ b) && powers_from (b + 1) xs

module _ (b x : ℕ) (xs : List ℕ) (p : powers_from b (x ∷ xs) ≡ true) where
  power : x ≡ 2 ^ b
  power = eqb-true x (2 ^ b) (and_fst (eqb x (2 ^ b)) (powers_from (b + 1) xs) p)

  others : powers_from (b + 1) xs ≡ true
  others = and_snd (eqb x (2 ^ b)) (powers_from (b + 1) xs) p

-- a number is among them exactly if it is 2 to one of these powers
powers-some : (n b : ℕ) (xs : List ℕ) → powers_from b xs ≡ true → any (eqb n) xs ≡ true
    → (c : ℕ) × (b ≤ c) × (c < b + length xs) × (n ≡ 2 ^ c)
powers-some n b [] p e = absurd (false≢true e)
powers-some n b (x ∷ xs) p e =
    ⊎_elim (λ q. (b, omega arith, omega arith, eqb-true n x q ∙ power b x xs p))
    (λ q. let r = powers-some n (b + 1) xs (others b x xs p) q in
    let low = r.1 in
    let high = r.2 in
    (r.0, omega arith, omega arith, r.3))
    (or_split (eqb n x) (any (eqb n) xs) e)

powers-any : (n b : ℕ) (xs : List ℕ) → powers_from b xs ≡ true → (c : ℕ) → b ≤ c → c < b + length xs → n ≡ 2 ^ c
    → any (eqb n) xs ≡ true
powers-any n b [] p c low high e = absurd (omega arith)
powers-any n b (x ∷ xs) p c low high e =
    by (eqb b c) refl (λ l h. powers-any n (b + 1) xs (others b x xs p) c l h e)
  where
    by : (t : Bool) → eqb b c ≡ t → (b + 1 ≤ c → c < b + 1 + length xs → any (eqb n) xs ≡ true)
        → any (eqb n) (x ∷ xs) ≡ true
    by true q more =
        or_left (eqb n x) (any (eqb n) xs)
        (eq-eqb n x (e ∙ ap (λ d. 2 ^ d) (sym (eqb-true b c q)) ∙ sym (power b x xs p)))
    by false q more =
        let other = eqb-false b c q in
        or_right (eqb n x) (any (eqb n) xs) (more (omega arith) (omega arith))

length_iff : (n : ℕ) → (good_length n ≡ true) ↔ ((b : ℕ) × (2 ≤ b) × (b ≤ 16) × (n ≡ 2 ^ b))
unfolding good_length
length_iff n = (
  (λ e. let r = powers-some n 2 lengths refl e in let high = r.2 in (r.0, r.1, omega arith, r.3)),
  (λ v. let most = v.2 in powers-any n 2 lengths refl v.0 v.1 (omega arith) v.3),
)

carried_iff : (n infinity : ℕ) → ((good_length n && good_infinity infinity) ≡ true) ↔ Carried n infinity
carried_iff n infinity =
    and_iff (good_length n) (good_infinity infinity) (length_iff n)
    (and_iff (leb 2 infinity) (leb infinity 127) (most_iff 2 infinity) (most_iff infinity 127))

-- ---- the answers

-- 2 stands at both ends of the tests
two_iff : (p g k s : Bool) → (first_of ((p, 2) ∷ (not g, 1) ∷ (not k, 14) ∷ (s, 2) ∷ []) ≡ 2)
    ↔ ((p ≡ true) ⊎ ((p ≡ false) × (g ≡ true) × (k ≡ true) × (s ≡ true)))
two_iff true g k s = ((λ e. inl refl), (λ v. refl))
two_iff false false k s = (
  (λ e. absurd (omega arith)),
  ⊎_elim (λ e. absurd (false≢true e)) (λ v. absurd (false≢true v.1)),
)
two_iff false true false s = (
  (λ e. absurd (omega arith)),
  ⊎_elim (λ e. absurd (false≢true e)) (λ v. absurd (false≢true v.2)),
)
two_iff false true true false = (
  (λ e. absurd (omega arith)),
  ⊎_elim (λ e. absurd (false≢true e)) (λ v. absurd (false≢true v.3)),
)
two_iff false true true true = ((λ e. inr (refl, refl, refl, refl)), (λ v. refl))

module _ (a : List ℕ) (n infinity out : ℕ) where
  short_iff : (table_answer a n infinity out ≡ 2) ↔ ((length a < 4100) ⊎ (Sound a × Carried n infinity × (out < n)))
  unfolding table_answer
  short_iff =
      let k = good_length n && good_infinity infinity in
      let x = two_iff (ltb (length a) 4100) (good_list a) k (ltb out n) in
      let small = less_iff (length a) 4100 in
      let room = not-less_iff (length a) 4100 in
      let good = carried_iff n infinity in
      let less = less_iff out n in (
        (λ e. ⊎_elim (λ v. inl (small.0 v))
            (λ v. inr ((room.0 v.0, v.1), good.0 v.2, less.0 v.3))
            (x.0 e)),
        (λ v. x.1 (⊎_elim (λ w. inl (small.1 w))
            (λ w. inr (room.1 w.0.0, w.0.1, good.1 w.1, less.1 w.2))
            v)),
      )

  -- the tests behind the first
  abbrev listed : List (Bool × ℕ)
  listed = (not (good_list a), 1) ∷ own_rules n infinity out

  bad_iff : (table_answer a n infinity out ≡ 1) ↔ ((4100 ≤ length a) × (good_list a ≡ false))
  unfolding table_answer
  bad_iff =
      past_iff 1 (ltb (length a) 4100) 2 listed refl (not-less_iff (length a) 4100)
      (Iff.trans (first_iff 1 (not (good_list a)) (own_rules n infinity out) refl refl) (no_iff (good_list a)))

  wrong_iff : (table_answer a n infinity out ≡ 14) ↔ (Sound a × (Carried n infinity → ⊥))
  unfolding table_answer
  wrong_iff =
      let k = good_length n && good_infinity infinity in
      let x = past_iff 14 (ltb (length a) 4100) 2 listed refl (not-less_iff (length a) 4100)
      (past_iff 14 (not (good_list a)) 1 (own_rules n infinity out) refl (yes_iff (good_list a))
      (Iff.trans (first_iff 14 (not k) ((ltb out n, 2) ∷ []) refl refl) (none_iff k (carried_iff n infinity)))) in (
        (λ e. let v = x.0 e in ((v.0, v.1.0), v.1.1)),
        (λ v. x.1 (v.0.0, (v.0.1, v.1))),
      )

  made_iff : (table_answer a n infinity out ≡ 0) ↔ (Sound a × Carried n infinity × (n ≤ out))
  unfolding table_answer
  made_iff =
      let k = good_length n && good_infinity infinity in
      let x = past_iff 0 (ltb (length a) 4100) 2 listed refl (not-less_iff (length a) 4100)
      (past_iff 0 (not (good_list a)) 1 (own_rules n infinity out) refl (yes_iff (good_list a))
      (past_iff 0 (not k) 14 ((ltb out n, 2) ∷ []) refl (some_iff k (carried_iff n infinity))
      (past_iff 0 (ltb out n) 2 [] refl (not-less_iff out n) Iff.rfl))) in (
        (λ e. let v = x.0 e in ((v.0, v.1.0), v.1.1.0, v.1.1.1.0)),
        (λ v. x.1 (v.0.0, (v.0.1, (v.1, (v.2, refl))))),
      )

pub table-refusals : TableRefusals
table-refusals a n infinity out =
    record {
      short = short_iff a n infinity out;
      bad = bad_iff a n infinity out;
      wrong = wrong_iff a n infinity out;
      made = made_iff a n infinity out;
    }

-- ---- the output

pub table-leaves : TableLeaves
unfolding table_out
table-leaves a n infinity out =
    let answer = table_answer a n infinity (length out) in
    let entries = own_entries n infinity (names_in a) in
    let after = table_out a n infinity out in
    let size = entries-length n infinity (names_in a) in
    record {
      refused = front-refused answer n entries out after size refl;
      table = front_read answer n entries out after size refl;
      behind = front-behind answer n entries out after size refl;
      long = front_long answer n entries out after size refl (λ e. ((made_iff a n infinity (length out)).0 e).2);
    }

pub table-told : TableTold
table-told a n infinity out e = record { bits = b; power = v.0.3; near = near; far = far }
  where
    after : List ℕ
    after = table_out a n infinity out

    v : Carried n infinity
    v = ((made_iff a n infinity (length out)).0 e).1

    b : ℕ
    b = v.0.0

    above : infinity ≡ 1 → ⊥
    above z = let low = v.1.0 in omega arith

    entry : (i : ℕ) → i < n → Entry (FallsOn b (names_in a) i) infinity (get_or after i 0)
    entry i h =
        let most = v.0.2 in
        let here : get_or (own_entries n infinity (names_in a)) i 0 ≡ get_or after i 0 =
        ap (λ l. get_or l i 0) (sym ((table-leaves a n infinity out).table e)) ∙ get_or-take n after i 0 h in
        rw here at (table-exactly n b v.0.3 (omega arith) infinity (names_in a) i h)

    near : (i : ℕ) → i < n → (get_or after i 0 ≡ 1) ↔ FallsOn b (names_in a) i
    near i h = (entry i h).exactly above

    far : (i : ℕ) → i < n → (get_or after i 0 ≡ infinity) ↔ (FallsOn b (names_in a) i → ⊥)
    far i h = ((λ q f. above (sym q ∙ (entry i h).near f)), (entry i h).far)
