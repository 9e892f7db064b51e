-- Which stored pongs answer a ping: the 80 places in order, those that may answer, and the first ten of these.
-- Assumes nothing.
use Prim.Native.Nat.{ℕ, zero, suc, ◌+◌, ◌*◌, ◌/◌, ◌%◌, ◌≤◌, ◌<◌}
use native.Mathlib.Omega.{arith}
use mathlib.Core.Path.{◌≡◌, refl, sym, ap, ap₂, ◌∙◌}
use mathlib.Core.Bool.{Bool, true, false, cond, ◌&&◌, ◌||◌}
use mathlib.Core.Logic.{◌↔◌, ◌⊎◌, inl, inr}
use mathlib.Core.List.{List, [], ◌∷◌, ◌++◌, map}
use lib.Dec.{eqb, leb, ltb}
use lib.ListN.{length, get_or, take, length-take}
use lib.Seq.{get_or-take}
use borrow.Author.Tests.{leb-true, ltb-true, ltb-false}
use Rattle.laws.specs.Tests.{all}
use Rattle.laws.specs.Ring.{kept_places}
use Rattle.laws.proofs.Refusals.{and_fst, and_snd, and_intro, of_choice, all_get_d, get_d_any, all_append}
use Rattle.laws.proofs.Refusals.{all_take, all_weaken}
use Rattle.laws.proofs.Words.{and_iff, or_iff, eqb_iff, other_iff, less_iff}
use Rattle.laws.proofs.Rings.{map-take, map-get_or}
use Rattle.protocol.specs.declared.Pong.{Pong}
use Rattle.protocol.specs.declared.Line.{Line}
use Rattle.wire.specs.Header.{hops_of, number_of}
use Rattle.protocol.specs.State.{Station, line_at}
use Rattle.protocol.specs.Lines.{line_numbers, is_other, no_pong, nowhere, line_in, pong_hops, stored_pongs, elapsed}
use Rattle.protocol.specs.Order.{low_hops, line_in_order, in_order}
use Rattle.protocol.specs.Pings.{ranked, keep_if, flat, walk, is_fresh, stored_sent, pong_bytes, one_hop_more}
use Rattle.protocol.specs.Pings.{stored_bytes}
use Rattle.protocol.specs.Pongs.{Place, first_place, pong_at, Before, MayAnswer, Among, FirstTen, stored_written}
use Rattle.protocol.proofs.Outcomes.{counting, counted}
use Rattle.protocol.proofs.InOrder.{state_facts, line_facts}

abbrev ranks : List ℕ
ranks = 0 ∷ 1 ∷ 2 ∷ 3 ∷ 4 ∷ 5 ∷ 6 ∷ 7 ∷ 8 ∷ 9 ∷ []

-- what is kept of a list
module _ {A : Type 0} (f : A → Bool) where
  pub all_keep : (g : A → Bool) (xs : List A) → all g xs ≡ true → all g (keep_if f xs) ≡ true
  all_keep g [] h = refl
  all_keep g (x ∷ xs) h =
      let rest = all_keep g xs (and_snd (g x) (all g xs) h) in
      of_choice (λ (ys : List A). all g ys ≡ true) (f x) (x ∷ keep_if f xs) (keep_if f xs)
      (λ _. and_intro (g x) (all g (keep_if f xs)) (and_fst (g x) (all g xs) h) rest)
      (λ _. rest)

  pub keep_all : (xs : List A) → all f (keep_if f xs) ≡ true
  keep_all [] = refl
  keep_all (x ∷ xs) =
      of_choice (λ (ys : List A). all f ys ≡ true) (f x) (x ∷ keep_if f xs) (keep_if f xs)
      (λ e. and_intro (f x) (all f (keep_if f xs)) e (keep_all xs))
      (λ _. keep_all xs)

-- what holds of the pongs stored by each line holds of those sent
all-flat : {A B : Type 0} (f : A → Bool) (g : B → List A) → ((x : B) → all f (g x) ≡ true) → (xs : List B)
    → all f (flat (map g xs)) ≡ true
all-flat f g h [] = refl
all-flat f g h (x ∷ xs) = all_append f (g x) (flat (map g xs)) (h x) (all-flat f g h xs)

module _ (f : Pong → Bool) where
  all-ranked : (r : ℕ) (ps : List Pong) → all f ps ≡ true → all f (ranked r ps) ≡ true
  all-ranked r [] h = refl
  all-ranked zero (p ∷ ps) h = and_intro (f p) true (and_fst (f p) (all f ps) h) refl
  all-ranked (suc r) (p ∷ ps) h = all-ranked r ps (and_snd (f p) (all f ps) h)

  pub all-sent : (lines : List Line) → ((k : ℕ) → all f (stored_pongs (line_in lines k)) ≡ true) → (l clock : ℕ)
      → all f (stored_sent lines l clock) ≡ true
  unfolding walk
  all-sent lines h l clock =
      all_take f 10 (keep_if (is_fresh clock) (walk lines l))
      (all_keep (is_fresh clock) f (walk lines l)
      (all-flat f (λ r. flat (map (at r) others))
      (λ r. all-flat f (at r) (λ k. all-ranked r (stored_pongs (line_in lines k)) (h k)) others)
      ranks))
    where
      others : List ℕ
      others = keep_if (is_other l) line_numbers

      at : ℕ → ℕ → List Pong
      at r k = ranked r (stored_pongs (line_in lines k))

-- in a state in order these have Hops of 7 at most
abbrev low : Pong → Bool
low p = leb p.hops pong_hops

low-sent : (s : Station) → in_order s ≡ true → (l clock : ℕ) → all low (stored_sent s.lines l clock) ≡ true
unfolding stored_pongs kept_places
low-sent s o =
    all-sent low s.lines
    (λ k. get_d_any low_hops s.lines k nowhere
    (all_weaken (line_in_order s.room) low_hops s.lines (λ x e. (line_facts s.room x e).hops)
    (state_facts s o).lines)
    refl)

-- the places in order
abbrev row : ℕ → List ℕ → List Place → List Place
row r [] rest = rest
row r (k ∷ ks) rest = record { rank = r; line = k } ∷ row r ks rest

abbrev rows : List ℕ → List Place
rows [] = []
rows (r ∷ rs) = row r line_numbers (rows rs)

abbrev before : Place → Place → Bool
before p q = ltb p.rank q.rank || (eqb p.rank q.rank && ltb p.line q.line)

before-is : (p q : Place) → before p q ≡ true → Before p q
before-is p q =
    (or_iff (ltb p.rank q.rank) _ (less_iff p.rank q.rank)
    (and_iff (eqb p.rank q.rank) _ (eqb_iff p.rank q.rank) (less_iff p.line q.line))).0

abbrev rising : List Place → Bool
rising [] = true
rising (p ∷ ps) = all (before p) ps && rising ps

rising-at : (ps : List Place) → rising ps ≡ true → (i j : ℕ) → i < j → j < length ps
    → Before (get_or ps i first_place) (get_or ps j first_place)
rising-at [] h i j a b = absurd (omega arith)
rising-at (p ∷ ps) h i zero a b = absurd (omega arith)
rising-at (p ∷ ps) h zero (suc j) a b =
    before-is p (get_or ps j first_place)
    (all_get_d (before p) ps j first_place (and_fst (all (before p) ps) (rising ps) h) (omega arith))
rising-at (p ∷ ps) h (suc i) (suc j) a b =
    rising-at ps (and_snd (all (before p) ps) (rising ps) h) i j (omega arith) (omega arith)

rising-keep : (f : Place → Bool) (ps : List Place) → rising ps ≡ true → rising (keep_if f ps) ≡ true
rising-keep f [] h = refl
rising-keep f (p ∷ ps) h =
    let rest = rising-keep f ps (and_snd (all (before p) ps) (rising ps) h) in
    of_choice (λ (qs : List Place). rising qs ≡ true) (f p) (p ∷ keep_if f ps) (keep_if f ps)
    (λ _. and_intro (all (before p) (keep_if f ps)) (rising (keep_if f ps))
    (all_keep f (before p) ps (and_fst (all (before p) ps) (rising ps) h)) rest)
    (λ _. rest)

rows-rising : rising (rows ranks) ≡ true
rows-rising = refl

abbrev bounded : Place → Bool
bounded p = ltb p.rank 10 && ltb p.line 8

rows-bounded : all bounded (rows ranks) ≡ true
rows-bounded = refl

-- each place of the 80 is among them, at its rank's row and its line
abbrev place_at : ℕ → Place
place_at n = record { rank = n / 8; line = n % 8 }

later : (q : Place) (ps : List Place) (p : Place) → Among ps p → Among (q ∷ ps) p
later q ps p a = record { at = suc a.at; below = let h = a.below in omega arith; is = a.is }

in_all : (p : Place) → p.rank < 10 → p.line < 8 → Among (rows ranks) p
unfolding counting
in_all p a b =
    let n : ℕ = 8 * p.rank + p.line in
    let u : (0 + n) / 8 ≡ p.rank = omega arith in
    let v : (0 + n) % 8 ≡ p.line = omega arith in
    record {
      at = n;
      below = omega arith;
      is = map-get_or place_at (counting 80 0) n 0 first_place (omega arith)
          ∙ ap place_at (counted 80 0 n (omega arith))
          ∙ (λ i. record { rank = u i; line = v i });
    }

-- one that passes the test is among those kept
kept-among : (f : Place → Bool) (ps : List Place) (i : ℕ) → i < length ps → f (get_or ps i first_place) ≡ true
    → Among (keep_if f ps) (get_or ps i first_place)
kept-among f [] i h e = absurd (omega arith)
kept-among f (p ∷ ps) zero h e = rw e (record { at = 0; below = omega arith; is = refl })
kept-among f (p ∷ ps) (suc i) h e =
    let x = kept-among f ps i (omega arith) e in
    of_choice (λ (qs : List Place). Among qs (get_or ps i first_place)) (f p) (p ∷ keep_if f ps) (keep_if f ps)
    (λ _. later p (keep_if f ps) (get_or ps i first_place) x)
    (λ _. x)

-- the rank of a list
ranked_in : (r : ℕ) (ps : List Pong) → r < length ps → ranked r ps ≡ get_or ps r no_pong ∷ []
ranked_in r [] h = absurd (omega arith)
ranked_in zero (p ∷ ps) h = refl
ranked_in (suc r) (p ∷ ps) h = ranked_in r ps (omega arith)

ranked-out : (r : ℕ) (ps : List Pong) → length ps ≤ r → ranked r ps ≡ []
ranked-out r [] h = refl
ranked-out zero (p ∷ ps) h = absurd (omega arith)
ranked-out (suc r) (p ∷ ps) h = ranked-out r ps (omega arith)

module _ (s : Station) (l clock : ℕ) where
  abbrev within : Place → Bool
  within p = ltb p.rank (length (stored_pongs (line_at s p.line)))

  abbrev may : Place → Bool
  may p = is_other l p.line && (within p && is_fresh clock (pong_at s p))

  abbrev at : ℕ → ℕ → List Pong
  at r k = ranked r (stored_pongs (line_at s k))

  abbrev young : List Pong → List Pong
  young ps = keep_if (is_fresh clock) ps

  abbrev pongs : List Place → List Pong
  pongs ps = map (pong_at s) ps

  -- one line's turn
  module _ (r k : ℕ) (others : List ℕ) (rest : List Pong) (left : List Place) where
    abbrev here : Place
    here = record { rank = r; line = k }

    abbrev more : List Pong
    more = flat (map (at r) others) ++ rest

    abbrev kept : List Pong
    kept = stored_pongs (line_at s k)

    turn : young more ≡ pongs left
        → young (flat (map (at r) (cond (is_other l k) (k ∷ others) others)) ++ rest)
        ≡ pongs (cond (may here) (here ∷ left) left)
    turn on = another (is_other l k)
      where
        new : (b : Bool) → cond b (pong_at s here ∷ young more) (young more) ≡ pongs (cond b (here ∷ left) left)
        new true = ap (λ qs. pong_at s here ∷ qs) on
        new false = on

        has : (b : Bool) → within here ≡ b
            → young ((at r k ++ flat (map (at r) others)) ++ rest)
            ≡ pongs (cond (b && is_fresh clock (pong_at s here)) (here ∷ left) left)
        has true h = rw (ranked_in r kept (ltb-true r (length kept) h)) (new (is_fresh clock (pong_at s here)))
        has false h = rw (ranked-out r kept (ltb-false r (length kept) h)) on

        another : (b : Bool) → young (flat (map (at r) (cond b (k ∷ others) others)) ++ rest)
            ≡ pongs (cond (b && (within here && is_fresh clock (pong_at s here))) (here ∷ left) left)
        another true = has (within here) refl
        another false = on

  -- line after line of one rank
  of_row : (r : ℕ) (ks : List ℕ) (rest : List Pong) (ps : List Place) → young rest ≡ pongs (keep_if may ps)
      → young (flat (map (at r) (keep_if (is_other l) ks)) ++ rest) ≡ pongs (keep_if may (row r ks ps))
  of_row r [] rest ps e = e
  of_row r (k ∷ ks) rest ps e =
      turn r k (keep_if (is_other l) ks) rest (keep_if may (row r ks ps)) (of_row r ks rest ps e)

  of_rows : (rs : List ℕ)
      → young (flat (map (λ r. flat (map (at r) (keep_if (is_other l) line_numbers))) rs)) ≡ pongs (keep_if may (rows rs))
  of_rows [] = refl
  of_rows (r ∷ rs) =
      of_row r line_numbers (flat (map (λ r. flat (map (at r) (keep_if (is_other l) line_numbers))) rs)) (rows rs)
      (of_rows rs)

  abbrev eligible : List Place
  eligible = keep_if may (rows ranks)

  abbrev pub places : List Place
  places = take 10 eligible

  sent-places : stored_sent s.lines l clock ≡ pongs places
  unfolding walk
  sent-places = ap (take 10) (of_rows ranks) ∙ sym (map-take (pong_at s) 10 eligible)

  pub stored-written : in_order s ≡ true → (m : List ℕ)
      → stored_bytes (number_of m) (hops_of m) (stored_sent s.lines l clock) ≡ stored_written s m places
  stored-written o m = rw sent-places (go places (rw sent-places at (low-sent s o l clock)))
    where
      go : (ps : List Place) → all low (pongs ps) ≡ true
          → stored_bytes (number_of m) (hops_of m) (pongs ps) ≡ stored_written s m ps
      go [] h = refl
      go (p ∷ ps) h =
          let seven : (pong_at s p).hops ≤ 7
          = leb-true (pong_at s p).hops 7 (and_fst (low (pong_at s p)) (all low (pongs ps)) h) in
          let one : one_hop_more (pong_at s p).hops ≡ (pong_at s p).hops + 1 = omega arith in
          ap₂ (λ h bs. pong_bytes (number_of m) (hops_of m) h (pong_at s p).bytes ++ bs) one
          (go ps (and_snd (low (pong_at s p)) (all low (pongs ps)) h))

  -- the test, in words
  may_iff : (p : Place) → (may p ≡ true)
      ↔ ((p.line ≡ l → ⊥) × ((p.rank < length (stored_pongs (line_at s p.line)))
      × (elapsed clock (pong_at s p).clock < 15000)))
  may_iff p =
      and_iff (is_other l p.line) _ (other_iff p.line l)
      (and_iff (within p) _ (less_iff p.rank _) (less_iff (elapsed clock (pong_at s p).clock) 15000))

  may-is : (p : Place) → may p ≡ true → bounded p ≡ true → MayAnswer s l clock p
  may-is p e b =
      let x = (may_iff p).0 e in
      let y = (and_iff (ltb p.rank 10) (ltb p.line 8) (less_iff p.rank 10) (less_iff p.line 8)).0 b in
      record { line = y.1; other = x.0; ten = y.0; stored = x.1.0; young = x.1.1 }

  up : rising eligible ≡ true
  up = rising-keep may (rows ranks) rows-rising

  pub first-ten : FirstTen s l clock places
  first-ten =
      let n = length-take 10 eligible in
      record {
        most = omega arith;
        each = λ i h.
            rw (get_or-take 10 eligible i first_place (omega arith))
            (may-is (get_or eligible i first_place)
            (all_get_d may eligible i first_place (keep_all may (rows ranks)) (omega arith))
            (all_get_d bounded eligible i first_place (all_keep may bounded (rows ranks) rows-bounded) (omega arith)));
        order = λ i j a b.
            rw (get_or-take 10 eligible i first_place (omega arith), get_or-take 10 eligible j first_place (omega arith))
            (rising-at eligible up i j a (omega arith));
        rest = λ p h.
            let x = in_all p h.ten h.line in
            let e : may p ≡ true = (may_iff p).1 (h.other, (h.stored, h.young)) in
            let y : Among eligible p
            = rw (sym x.is) (kept-among may (rows ranks) x.at x.below (ap may x.is ∙ e)) in
            tenth p y (ltb y.at 10) refl;
      }
    where
      tenth : (p : Place) (y : Among eligible p) (b : Bool) → ltb y.at 10 ≡ b
          → Among places p ⊎ ((length places ≡ 10) × Before (get_or places 9 first_place) p)
      tenth p y true e =
          let n = length-take 10 eligible in
          let a = ltb-true y.at 10 e in
          let b = y.below in
          inl (record { at = y.at; below = omega arith; is = get_or-take 10 eligible y.at first_place a ∙ y.is })
      tenth p y false e =
          let n = length-take 10 eligible in
          let a = ltb-false y.at 10 e in
          let b = y.below in
          inr (
            omega arith,
            rw (get_or-take 10 eligible 9 first_place (omega arith), sym y.is)
                (rising-at eligible up 9 y.at (omega arith) b),
          )
