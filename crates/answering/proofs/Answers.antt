-- What the call that writes hits answers, in words: each number where its test is the first that holds.
use Prim.Native.Nat.{ℕ, ◌+◌, ◌≤◌, ◌<◌}
use mathlib.Core.Path.{◌≡◌, refl}
use mathlib.Core.Bool.{Bool, true, false, not, ◌||◌, false≢true}
use mathlib.Core.Logic.Iff
use mathlib.Core.Logic.{◌↔◌, ◌⊎◌, inl, inr, ⊎_elim}
use mathlib.Core.List.{List, [], ◌∷◌, ◌++◌}
use native.Mathlib.Omega.{arith}
use lib.Dec.{eqb, leb, ltb}
use lib.ListN.{length}
use borrow.Author.Tests.{le-ltb, lt-ltb}
use Rattle.laws.specs.Tests.{first_of, any}
use Rattle.laws.proofs.Refusals.{or_fst, or_snd}
use Rattle.laws.proofs.Words.{or_iff, none_iff, some_iff, no_iff, yes_iff, eqb_iff, other_iff, less_iff, not-less_iff}
use Rattle.laws.proofs.Words.{most_iff, first_iff, past_iff}
use Rattle.wire.specs.Header.{header_in, kind_of, ttl_of, hops_of, size_of, payload_of}
use Rattle.namearea.specs.Area.{count_in, name_at, names_in}
use Rattle.namearea.specs.Good.{good_list}
use Rattle.namearea.specs.Calls.{list_rules}
use Rattle.namearea.specs.Words.{Taken}
use Rattle.namearea.proofs.GoodLaws.{names-length, names_at}
use Rattle.namearea.proofs.PlaceLaws.{any_at, at-any}
use Rattle.namearea.proofs.Words.{well_iff, past-area}
use Rattle.protocol.specs.Queries.{has_text, not_allowed}
use Rattle.protocol.specs.Exactly.{ZeroFrom}
use Rattle.protocol.proofs.Exactly.{zero_iff}
use Rattle.matching.specs.Matching.{matches}
use Rattle.matching.proofs.Words.{matches-exactly}
use Rattle.answering.specs.Writing.{asked_text, hits_answer, writing}
use Rattle.answering.specs.Words.{Lent, Whole, NotAllowed, Answerable, MatchAt, HitsAnswers, HitsExactly}
use Rattle.answering.specs.Words.{Answered}

-- ---- tests and numbers

neither_iff : (a b : Bool) {A B : Type 0} → (a ≡ false) ↔ A → (b ≡ false) ↔ B → ((a || b) ≡ false) ↔ (A × B)
neither_iff a b x y = (
  (λ e. (x.0 (or_fst a b e), y.0 (or_snd a b e))),
  (λ v. rw (x.1 v.0) (y.1 v.1)),
)

lacks_iff : (b : Bool) {X : Type 0} → (b ≡ true) ↔ X → (b ≡ false) ↔ (X → ⊥)
lacks_iff b x = Iff.trans (Iff.symm (no_iff b)) (none_iff b x)

-- a number that a later test may give too
again_iff : (n : ℕ) {A Y X : Type 0} (b : Bool) (cs : List (Bool × ℕ))
    → (b ≡ true) ↔ A → (b ≡ false) ↔ Y → (first_of cs ≡ n) ↔ X → (first_of ((b, n) ∷ cs) ≡ n) ↔ (A ⊎ (Y × X))
again_iff n true cs a y x = ((λ e. inl (a.0 refl)), (λ v. refl))
again_iff n false cs a y x = (
  (λ e. inr (y.0 refl, x.0 e)),
  ⊎_elim (λ v. absurd (false≢true (a.1 v))) (λ v. x.1 v.1),
)

-- ---- the tests, and those behind each

abbrev pub some_match : List ℕ → List ℕ → Bool
some_match q a = any (matches (asked_text q)) (names_in a)

module _ (limit : ℕ) (q a : List ℕ) (sizes out : ℕ) where
  abbrev few : Bool
  few = ltb sizes (count_in a) || ltb out 4119

  abbrev other : Bool
  other = not (eqb (kind_of q) 0x80)

  abbrev text : Bool
  text = has_text (payload_of q)

  abbrev unfit : Bool
  unfit = not_allowed limit (header_in q)

  abbrev found : Bool
  found = some_match q a

  abbrev from_found : List (Bool × ℕ)
  from_found = (not found, 10) ∷ []

  abbrev from_life : List (Bool × ℕ)
  from_life = (unfit, 8) ∷ from_found

  abbrev from_text : List (Bool × ℕ)
  from_text = (not text, 6) ∷ from_life

  abbrev from_kind : List (Bool × ℕ)
  from_kind = (other, 7) ∷ from_text

  abbrev from_whole : List (Bool × ℕ)
  from_whole = (ltb (length q) (23 + size_of q), 4) ∷ from_kind

  abbrev from_size : List (Bool × ℕ)
  from_size = (ltb 4096 (size_of q), 5) ∷ from_whole

  abbrev from_header : List (Bool × ℕ)
  from_header = (ltb (length q) 23, 4) ∷ from_size

  abbrev from_room : List (Bool × ℕ)
  from_room = (few, 2) ∷ from_header

  abbrev tests : List (Bool × ℕ)
  tests = list_rules a ++ from_room

  -- ---- the words of the tests

  few_iff : (few ≡ true) ↔ ((sizes < count_in a) ⊎ (out < 4119))
  few_iff = or_iff (ltb sizes (count_in a)) (ltb out 4119) (less_iff sizes (count_in a)) (less_iff out 4119)

  enough_iff : (few ≡ false) ↔ ((count_in a ≤ sizes) × (4119 ≤ out))
  enough_iff =
      neither_iff (ltb sizes (count_in a)) (ltb out 4119) (not-less_iff sizes (count_in a)) (not-less_iff out 4119)

  unfit_iff : (unfit ≡ true) ↔ NotAllowed limit q
  unfit_iff =
      or_iff (eqb (ttl_of q) 0) (ltb 15 (ttl_of q) || leb limit (hops_of q)) (eqb_iff (ttl_of q) 0)
      (or_iff (ltb 15 (ttl_of q)) (leb limit (hops_of q)) (less_iff 15 (ttl_of q)) (most_iff limit (hops_of q)))

  -- ---- a number behind the tests of what is lent; behind those of the query's extent; and behind all but the last

  lent_iff : (n : ℕ) {X : Type 0} → eqb 2 n ≡ false → eqb 1 n ≡ false → (first_of from_header ≡ n) ↔ X
      → (first_of tests ≡ n) ↔ (Lent a sizes out × X)
  lent_iff n h g x =
      let p = past-area a from_room n h g (λ _. past_iff n few 2 from_header h enough_iff x) in (
        (λ e. let v = p.0 e in (record { names = v.0; sizes-enough = v.1.0.0; room = v.1.0.1 }, v.1.1)),
        (λ v. p.1 (v.0.names, ((v.0.sizes-enough, v.0.room), v.1))),
      )

  whole_iff : (n : ℕ) {X : Type 0} → eqb 4 n ≡ false → eqb 5 n ≡ false → (first_of from_kind ≡ n) ↔ X
      → (first_of from_header ≡ n) ↔ (Whole q × X)
  whole_iff n h g x =
      let p = past_iff n (ltb (length q) 23) 4 from_size h (not-less_iff (length q) 23)
      (past_iff n (ltb 4096 (size_of q)) 5 from_whole g (not-less_iff 4096 (size_of q))
      (past_iff n (ltb (length q) (23 + size_of q)) 4 from_kind h (not-less_iff (length q) (23 + size_of q)) x)) in (
        (λ e. let v = p.0 e in (record { size = v.1.0; whole = v.1.1.0 }, v.1.1.1)),
        (λ v. p.1 (omega (arith, v.0.whole), (v.0.size, (v.0.whole, v.1)))),
      )

  kind_iff : (n : ℕ) {X : Type 0} → eqb 7 n ≡ false → (first_of from_text ≡ n) ↔ X
      → (first_of from_kind ≡ n) ↔ ((kind_of q ≡ 0x80) × X)
  kind_iff n h x = past_iff n other 7 from_text h (some_iff (eqb (kind_of q) 0x80) (eqb_iff (kind_of q) 0x80)) x

  text_iff : (n : ℕ) {X : Type 0} → eqb 6 n ≡ false → (first_of from_life ≡ n) ↔ X
      → (first_of from_text ≡ n) ↔ (ZeroFrom 2 (payload_of q) × X)
  text_iff n h x = past_iff n (not text) 6 from_life h (some_iff text (zero_iff 2 (payload_of q))) x

  -- nothing is wrong with what is lent and with the query, and so the answer is that of the last test
  sound_iff : (n : ℕ) {X : Type 0} → eqb 2 n ≡ false → eqb 1 n ≡ false → eqb 4 n ≡ false → eqb 5 n ≡ false
      → eqb 7 n ≡ false → eqb 6 n ≡ false → eqb 8 n ≡ false → (first_of from_found ≡ n) ↔ X
      → (first_of tests ≡ n) ↔ (Answerable limit q a sizes out × X)
  sound_iff n two one four five seven six eight x =
      let p = lent_iff n two one (whole_iff n four five (kind_iff n seven (text_iff n six
      (past_iff n unfit 8 from_found eight (lacks_iff unfit unfit_iff) x)))) in (
        (λ e.
            let v = p.0 e in (
              record {
                lent = v.0;
                whole = v.1.0;
                kind = v.1.1.0;
                text = v.1.1.1.0;
                allowed = v.1.1.1.1.0;
              },
              v.1.1.1.1.1,
            )),
        (λ v. p.1 (v.0.lent, (v.0.whole, (v.0.kind, (v.0.text, (v.0.allowed, v.1)))))),
      )

  -- 0 exactly if nothing is wrong and some name is found
  pub done_iff : (hits_answer limit q a sizes out ≡ 0) ↔ (Answerable limit q a sizes out × (some_match q a ≡ true))
  unfolding hits_answer
  done_iff =
      let p = past_iff 0 (not found) 10 [] refl (yes_iff found) (Iff.rfl {A = first_of [] ≡ 0}) in
      sound_iff 0 refl refl refl refl refl refl refl ((λ e. (p.0 e).0), (λ v. p.1 (v, refl)))

  -- ---- the two numbers that two tests give

  two_iff : (first_of tests ≡ 2) ↔ ((length a < 4100) ⊎ (Taken a × ((sizes < count_in a) ⊎ (out < 4119))))
  two_iff =
      let p = again_iff 2 (ltb (length a) 4100) ((not (good_list a), 1) ∷ from_room)
      (less_iff (length a) 4100) (not-less_iff (length a) 4100)
      (past_iff 2 (not (good_list a)) 1 from_room refl (some_iff (good_list a) (well_iff a))
      (Iff.trans (first_iff 2 few from_header refl refl) few_iff)) in (
        (λ e. ⊎_elim inl (λ v. inr (record { long = v.0; good = v.1.0 }, v.1.1)) (p.0 e)),
        (λ v. p.1 (⊎_elim inl (λ w. inr (w.0.long, (w.0.good, w.1))) v)),
      )

  four_iff : (first_of from_header ≡ 4) ↔ ((length q < 23) ⊎ ((size_of q ≤ 4096) × (length q < 23 + size_of q)))
  four_iff =
      let p = again_iff 4 (ltb (length q) 23) from_size (less_iff (length q) 23) (not-less_iff (length q) 23)
      (past_iff 4 (ltb 4096 (size_of q)) 5 from_whole refl (not-less_iff 4096 (size_of q))
      (Iff.trans (first_iff 4 (ltb (length q) (23 + size_of q)) from_kind refl refl)
      (less_iff (length q) (23 + size_of q)))) in (
        (λ e. ⊎_elim inl (λ v. inr v.1) (p.0 e)),
        ⊎_elim (λ v. p.1 (inl v)) (λ v. by (ltb (length q) 23) refl v),
      )
    where
      by : (t : Bool) → ltb (length q) 23 ≡ t → (size_of q ≤ 4096) × (length q < 23 + size_of q) → first_of from_header ≡ 4
      by true e v = rw e
      by false e v = rw (e, le-ltb 4096 (size_of q) v.0, lt-ltb (length q) (23 + size_of q) v.1)

  -- ---- the answers

  found_iff : (found ≡ true) ↔ ((i : ℕ) × MatchAt q a i)
  found_iff = (there, back)
    where
      there : found ≡ true → (i : ℕ) × MatchAt q a i
      there e =
          let s = any_at (matches (asked_text q)) [] (names_in a) e in
          let h : s.place < count_in a = omega (arith, s.within, names-length (count_in a) a) in
          let m = rw (names_at (count_in a) a s.place h) at s.holds in
          (s.place, record { listed = h; every = (matches-exactly (asked_text q) (name_at a s.place)).0 m })

      back : (i : ℕ) × MatchAt q a i → found ≡ true
      back v =
          let i : ℕ = v.0 in
          let h : i < count_in a = v.1.listed in
          at-any (matches (asked_text q)) [] (names_in a) i (omega (arith, names-length (count_in a) a))
          (rw (names_at (count_in a) a i h) ((matches-exactly (asked_text q) (name_at a i)).1 v.1.every))

  answers : HitsAnswers limit q a sizes out (hits_answer limit q a sizes out)
  unfolding hits_answer
  answers =
      let none = sound_iff 10 refl refl refl refl refl refl refl
      (Iff.trans (first_iff 10 (not found) [] refl refl) (none_iff found found_iff)) in
      record {
        two = two_iff;
        one =
            past_iff 1 (ltb (length a) 4100) 2 ((not (good_list a), 1) ∷ from_room) refl (not-less_iff (length a) 4100)
            (Iff.trans (first_iff 1 (not (good_list a)) from_room refl refl) (none_iff (good_list a) (well_iff a)));
        four = lent_iff 4 refl refl four_iff;
        five =
            lent_iff 5 refl refl
            (past_iff 5 (ltb (length q) 23) 4 from_size refl (not-less_iff (length q) 23)
            (Iff.trans (first_iff 5 (ltb 4096 (size_of q)) from_whole refl refl) (less_iff 4096 (size_of q))));
        seven =
            lent_iff 7 refl refl
            (whole_iff 7 refl refl (Iff.trans (first_iff 7 other from_text refl refl) (other_iff (kind_of q) 0x80)));
        six =
            lent_iff 6 refl refl (whole_iff 6 refl refl (kind_iff 6 refl
            (Iff.trans (first_iff 6 (not text) from_life refl refl) (none_iff text (zero_iff 2 (payload_of q))))));
        eight =
            lent_iff 8 refl refl (whole_iff 8 refl refl (kind_iff 8 refl (text_iff 8 refl
            (Iff.trans (first_iff 8 unfit from_found refl refl) unfit_iff))));
        ten = (
          (λ e. let v = none.0 e in (v.0, (λ i m. v.1 (i, m)))),
          (λ v. none.1 (v.0, (λ m. v.1 m.0 m.1))),
        );
        done = (
          (λ e. let v = done_iff.0 e in (v.0, found_iff.0 v.1)),
          (λ v. done_iff.1 (v.0, found_iff.1 v.1)),
        );
      }

pub hits-exactly : HitsExactly
hits-exactly limit q a sizes out = answers limit q a sizes out

-- the call answers so
pub answered : Answered
unfolding writing
answered limit q a sizes from out = refl
