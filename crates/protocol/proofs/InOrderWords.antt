-- A state is in order exactly if the clauses hold of it in words.
-- Assumes nothing.
use Prim.Native.Nat.{ℕ, zero, suc, ◌+◌, ◌-◌, ◌%◌, ◌≤◌, ◌<◌}
use native.Mathlib.Nat.{mod-eq_of_lt, add-mod_right}
use native.Mathlib.Omega.{arith}
use mathlib.Core.Path.{◌≡◌, refl, sym, ap, ◌∙◌}
use mathlib.Core.Bool.{Bool, true, false, cond, not, ◌&&◌, ◌||◌}
use mathlib.Core.Logic.Iff
use mathlib.Core.Logic.{◌↔◌, ⊎_elim}
use mathlib.Core.List.{List, [], ◌∷◌, map}
use lib.Dec.{eqb, leb, ltb}
use lib.ListN.{length, get_or, length-map}
use borrow.Author.Tests.{eqb-true, eqb-false, eq-eqb, ne_eqb, leb-true, le-leb, ltb-true, ltb-false, lt-ltb, not-true}
use Rattle.laws.specs.Tests.{any, all}
use Rattle.laws.specs.Ring.{places_before, kept_places}
use Rattle.laws.proofs.Words.{and_iff, or_iff, no_iff, eqb_iff, most_iff, refuted, decided}
use Rattle.laws.proofs.Refusals.{clash, and_fst, and_snd, and_intro, or_fst, or_snd, or_right}
use Rattle.laws.proofs.Refusals.{or_rest, all_get_d}
use Rattle.laws.proofs.Ranks.{place-low, place-high}
use Rattle.laws.proofs.Rings.{map-get_or}
use Rattle.laws.proofs.RingScan.{places-length}
use Rattle.tables.specs.declared.Table.{Table}
use Rattle.tables.specs.Tables.{broken, running, ready, good_length, inside_run, between_runs, within_limits}
use Rattle.tables.specs.Tables.{table_in_order}
use Rattle.tables.proofs.OrderLaws.{Limits, limits}
use Rattle.tables.proofs.Answers.{power_of, is-power}
use Rattle.protocol.specs.declared.Pong.{Pong}
use Rattle.protocol.specs.declared.Line.{Line}
use Rattle.protocol.specs.State.{Station, remembered, line_at}
use Rattle.protocol.specs.Memory.{Memory, same_number, Query, query_at, queries_in, no_twice, hits_fit}
use Rattle.protocol.specs.Lines.{nowhere, no_pong, stored_pongs}
use Rattle.protocol.specs.Order.{empty_when_closed, low_hops, line_in_order, in_order}
use Rattle.protocol.specs.Kept.{Sized}
use Rattle.protocol.specs.InOrderWords.{query_place, pong_place, RestWords, RunWords, LimitWords, TableWords}
use Rattle.protocol.specs.InOrderWords.{ClosedWords, LineWords, AskerWords, OneNumber}
use Rattle.protocol.specs.InOrderWords.{InOrderWords, InOrderExactly}
use Rattle.protocol.proofs.InOrder.{fits_in, asker_iff, state_facts, state-order, line_facts, line-order}

-- ---- tests over a list, element by element

module _ {A : Type 0} (f : A → Bool) (d : A) where
  all-each : (xs : List A) → ((i : ℕ) → i < length xs → f (get_or xs i d) ≡ true) → all f xs ≡ true
  all-each [] h = refl
  all-each (x ∷ xs) h = and_intro (f x) (all f xs) (h 0 (omega arith)) (all-each xs (λ i l. h (suc i) (omega arith)))

  none-at : (xs : List A) (i : ℕ) → any f xs ≡ false → i < length xs → f (get_or xs i d) ≡ false
  none-at [] i h l = absurd (omega arith)
  none-at (x ∷ xs) zero h l = or_fst (f x) (any f xs) h
  none-at (x ∷ xs) (suc i) h l = none-at xs i (or_snd (f x) (any f xs) h) (omega arith)

  none_of : (xs : List A) → ((i : ℕ) → i < length xs → f (get_or xs i d) ≡ false) → any f xs ≡ false
  none_of [] h = refl
  none_of (x ∷ xs) h = rw (h 0 (omega arith)) (none_of xs (λ i l. h (suc i) (omega arith)))

-- ---- the kept places of a ring by number

place_at : (c p n i : ℕ) → p < c → n ≤ c → i < n → get_or (places_before c p n) i 0 ≡ (p + (c - 1) - i) % c
place_at c p n i hp hn hi = by (ltb i p) refl
  where
    by : (b : Bool) → ltb i p ≡ b → get_or (places_before c p n) i 0 ≡ (p + (c - 1) - i) % c
    by true z =
        let h : i < p = ltb-true i p z in
        let e : p + (c - 1) - i ≡ (p - 1 - i) + c = omega arith in
        place-low c n i p hp h hi ∙ sym (ap (λ x. x % c) e ∙ add-mod_right (p - 1 - i) c ∙ mod-eq_of_lt (omega arith))
    by false z =
        let h : p ≤ i = ltb-false i p z in
        place-high c n i p hp h (omega arith) hi ∙ sym (mod-eq_of_lt (omega arith))

kept-are : (c p n : ℕ) → p < c → n ≤ c → kept_places c p n ≡ places_before c p n
unfolding kept_places
kept-are c p n hp hn = rw (le-leb n c hn, lt-ltb p c hp)

-- what a ring keeps, read place by place
module _ {A : Type 0} (c : ℕ) (f : ℕ → A) (d : A) (p n : ℕ) (hp : p < c) (hn : n ≤ c) where
  abbrev kept : List A
  kept = map f (kept_places c p n)

  kept-length : length kept ≡ n
  kept-length = length-map (kept_places c p n) f ∙ ap length (kept-are c p n hp hn) ∙ places-length c p n

  kept_at : (i : ℕ) → i < n → get_or kept i d ≡ f ((p + (c - 1) - i) % c)
  kept_at i h =
      ap (λ (l : List ℕ). get_or (map f l) i d) (kept-are c p n hp hn)
      ∙ map-get_or f (places_before c p n) i 0 d (omega (arith, places-length c p n))
      ∙ ap f (place_at c p n i hp hn h)

  kept_iff : (t : A → Bool) → (all t kept ≡ true) ↔ ((i : ℕ) → i < n → t (f ((p + (c - 1) - i) % c)) ≡ true)
  kept_iff t = (
    (λ h i l. rw (kept_at i l) at (all_get_d t kept i d h (omega (arith, kept-length)))),
    (λ h. all-each t d kept (λ i l. let k : i < n = omega (arith, kept-length) in ap t (kept_at i k) ∙ h i k)),
  )

-- ---- tables

-- waiting, running or settled
ready_of : (m : ℕ) → 1 ≤ m → m ≤ 3 → ready m ≡ true
ready_of m a b =
    decided (ready m)
    (λ e. let r = or_snd (eqb m 1) (eqb m 2 || eqb m 3) e in
    let u = eqb-false m 1 (or_fst (eqb m 1) (eqb m 2 || eqb m 3) e) in
    let v = eqb-false m 2 (or_fst (eqb m 2) (eqb m 3) r) in
    let w = eqb-false m 3 (or_snd (eqb m 2) (eqb m 3) r) in
    absurd (omega arith))

ready-least : (m : ℕ) → ready m ≡ true → (1 ≤ m) × (m ≤ 3)
ready-least m e =
    ⊎_elim (λ h. (omega arith, omega arith))
    (⊎_elim (λ h. (omega arith, omega arith)) (λ h. (omega arith, omega arith)))
    ((or_iff (eqb m 1) _ (eqb_iff m 1) (or_iff (eqb m 2) (eqb m 3) (eqb_iff m 2) (eqb_iff m 3))).0 e)

rest_iff : (t : Table) → (between_runs t ≡ true) ↔ RestWords t
rest_iff t =
    let w = and_iff _ _ (eqb_iff t.nextplace 1) (eqb_iff t.nextentry 0) in
    ((λ e. record { place = (w.0 e).0; entry = (w.0 e).1 }), (λ r. w.1 (r.place, r.entry)))

run_iff : (t : Table) → (inside_run t ≡ true) ↔ RunWords t
run_iff t =
    let width = or_iff _ _ (eqb_iff t.runbits 4) (eqb_iff t.runbits 8) in
    let entry = and_iff _ true (most_iff t.nextentry t.length) Iff.rfl in
    let most = most_iff t.nextplace t.runsize in
    let w = and_iff _ _ (most_iff 2 t.nextplace) (and_iff _ _ most (and_iff _ _ width entry)) in (
      (λ e. let h = w.0 e in record { second = h.0; last = h.1.0; width = h.1.1.0; entry = h.1.1.1.0 }),
      (λ r. w.1 (r.second, (r.last, (r.width, (r.entry, refl))))),
    )

module _ (room : ℕ) (t : Table) where
  abbrev position : Bool
  position = cond (eqb t.mark running) (inside_run t) (between_runs t)

  rest_at : (t.mark ≡ 2 → ⊥) → position ≡ true → RestWords t
  rest_at n e = (rest_iff t).0 (rw (ne_eqb t.mark 2 n) at e)

  run_at : t.mark ≡ 2 → position ≡ true → RunWords t
  run_at n e = (run_iff t).0 (rw (eq-eqb t.mark 2 n) at e)

  limit-words : Limits room t → LimitWords room t
  unfolding good_length
  limit-words l =
      let w = power_of t.length 2 15 l.length in
      record {
        power = w.bits;
        least = w.least;
        most = omega (arith, w.most);
        long = w.power;
        within = leb-true t.length room l.fits;
        above = leb-true 2 t.infinity (and_fst (leb 2 t.infinity) (leb t.infinity 127) l.infinity);
        below = leb-true t.infinity 127 (and_snd (leb 2 t.infinity) (leb t.infinity 127) l.infinity);
        waiting = λ e. rest_at (λ n. omega arith) l.position;
        running = λ e. run_at e l.position;
        settled = λ e. rest_at (λ n. omega arith) l.position;
      }

  position-is : 1 ≤ t.mark → t.mark ≤ 3 → LimitWords room t → position ≡ true
  position-is a b w = by (eqb t.mark 2) refl (eqb t.mark 1) refl
    where
      by : (x : Bool) → eqb t.mark 2 ≡ x → (y : Bool) → eqb t.mark 1 ≡ y → position ≡ true
      by true e y f = rw e ((run_iff t).1 (w.running (eqb-true t.mark 2 e)))
      by false e true f = rw e ((rest_iff t).1 (w.waiting (eqb-true t.mark 1 f)))
      by false e false f =
          let u = eqb-false t.mark 2 e in
          let v = eqb-false t.mark 1 f in
          let k : t.mark ≡ 3 = omega arith in
          rw e ((rest_iff t).1 (w.settled k))

  limits-are : 1 ≤ t.mark → t.mark ≤ 3 → LimitWords room t → within_limits room t ≡ true
  unfolding good_length
  limits-are a b w =
      let long = is-power t.length 2 15 w.power w.least (omega (arith, w.most)) w.long in
      let low = le-leb 2 t.infinity w.above in
      let high = le-leb t.infinity 127 w.below in
      rw (long, le-leb t.length room w.within, low, high, position-is a b w)

  pub table-words : table_in_order room t ≡ true → TableWords room t
  unfolding table_in_order
  table-words e =
      record {
        mark = leb-true t.mark 4 (and_fst (leb t.mark broken) (not (ready t.mark) || within_limits room t) e);
        limits = λ a b. limit-words (limits room t e (ready_of t.mark a b));
      }

  table_is : TableWords room t → table_in_order room t ≡ true
  unfolding table_in_order
  table_is w =
      and_intro (leb t.mark broken) (not (ready t.mark) || within_limits room t)
      (le-leb t.mark 4 w.mark)
      (by (ready t.mark) refl)
    where
      by : (b : Bool) → ready t.mark ≡ b → (not (ready t.mark) || within_limits room t) ≡ true
      by false e = rw e
      by true e =
          let h = ready-least t.mark e in
          or_right (not (ready t.mark)) (within_limits room t) (limits-are h.0 h.1 (w.limits h.0 h.1))

-- ---- lines

-- what a place past the pongs would read has Hops 0
hops-at : (ps : List Pong) (i : ℕ)
    → (get_or ps i (record { bytes = []; hops = 0; clock = 0 })).hops ≡ (get_or ps i no_pong).hops
hops-at [] i = refl
hops-at (p ∷ ps) zero = refl
hops-at (p ∷ ps) (suc i) = hops-at ps i

module _ (x : Line) where
  hops_iff : x.pongnext < 10 → x.pongcount ≤ 10 → (low_hops x ≡ true)
      ↔ ((i : ℕ) → i < x.pongcount → (get_or x.pongs (pong_place x.pongnext i) no_pong).hops ≤ 7)
  unfolding stored_pongs
  hops_iff hp hn =
      let at : ℕ → Pong = λ p. get_or x.pongs p (record { bytes = []; hops = 0; clock = 0 }) in
      let place : ℕ → ℕ = pong_place x.pongnext in
      let w = kept_iff 10 at no_pong x.pongnext x.pongcount hp hn (λ (p : Pong). leb p.hops 7) in (
        (λ e i l. rw (hops-at x.pongs (place i)) at (leb-true (at (place i)).hops 7 (w.0 e i l))),
        (λ h. w.1 (λ i l. le-leb (at (place i)).hops 7 (rw (hops-at x.pongs (place i)) (h i l)))),
      )

  abbrev bare : Bool
  bare = eqb x.table.mark 0 && (eqb x.pongcount 0 && not x.pinged)

  bare_iff : (bare ≡ true) ↔ ClosedWords x
  bare_iff =
      let kept = and_iff _ _ (eqb_iff x.pongcount 0) (no_iff x.pinged) in
      let w = and_iff _ _ (eqb_iff x.table.mark 0) kept in (
        (λ e. let h = w.0 e in record { table = h.0; pongs = h.1.0; ping = h.1.1 }),
        (λ c. w.1 (c.table, (c.pongs, c.ping))),
      )

  closed_is : (x.live ≡ false → ClosedWords x) → empty_when_closed x ≡ true
  closed_is h = by x.live refl
    where
      by : (b : Bool) → x.live ≡ b → (x.live || bare) ≡ true
      by true e = rw e
      by false e = or_right x.live bare (bare_iff.1 (h e))

line-words : (room : ℕ) (x : Line) → line_in_order room x ≡ true → LineWords room x
line-words room x e =
    let f = line_facts room x e in
    let c : x.pongcount ≤ 10 = leb-true x.pongcount 10 f.count in
    let n : x.pongnext < 10 = ltb-true x.pongnext 10 f.next in
    record {
      closed = λ v. (bare_iff x).0 (or_rest x.live (bare x) f.empty v);
      count = c;
      next = n;
      hops = (hops_iff x n c).0 f.hops;
      table = table-words room x.table f.table;
    }

line-is : (room : ℕ) (x : Line) → LineWords room x → line_in_order room x ≡ true
line-is room x w =
    line-order room x
    (record {
      empty = closed_is x w.closed;
      count = le-leb x.pongcount 10 w.count;
      next = lt-ltb x.pongnext 10 w.next;
      hops = (hops_iff x w.next w.count).1 w.hops;
      table = table_is room x.table w.table;
    })

-- ---- remembered queries

-- no number twice: any two of a list have different ones
abbrev like : Query → Query → Bool
like q p = same_number p.number q.number

module _ (d : Query) where
  apart-at : (qs : List Query) → no_twice qs ≡ true
      → (i j : ℕ) → i < j → j < length qs → same_number (get_or qs j d).number (get_or qs i d).number ≡ false
  unfolding no_twice
  apart-at [] h i j l m = absurd (omega arith)
  apart-at (q ∷ qs) h i zero l m = absurd (omega arith)
  apart-at (q ∷ qs) h zero (suc j) l m =
      none-at (like q) d qs j (not-true (any (like q) qs) (and_fst (not (any (like q) qs)) (no_twice qs) h))
      (omega arith)
  apart-at (q ∷ qs) h (suc i) (suc j) l m =
      apart-at qs (and_snd (not (any (like q) qs)) (no_twice qs) h) i j (omega arith) (omega arith)

  apart-all : (qs : List Query)
      → ((i j : ℕ) → i < j → j < length qs → same_number (get_or qs j d).number (get_or qs i d).number ≡ false)
      → no_twice qs ≡ true
  unfolding no_twice
  apart-all [] h = refl
  apart-all (q ∷ qs) h =
      rw (none_of (like q) d qs (λ j l. h 0 (suc j) (omega arith) (omega arith)))
      (apart-all qs (λ i j l m. h (suc i) (suc j) (omega arith) (omega arith)))

module _ (s : Station) (hp : s.memory.next < 512) (hn : s.memory.count ≤ 512) where
  abbrev q : Memory
  q = s.memory

  -- what a number past the remembered would read
  abbrev past : Query
  past = query_at q 512

  abbrev place : ℕ → ℕ
  place i = query_place q.next i

  many : length (remembered s) ≡ q.count
  unfolding queries_in
  many = kept-length 512 (query_at q) past q.next q.count hp hn

  query-at : (i : ℕ) → i < q.count → get_or (remembered s) i past ≡ query_at q (place i)
  unfolding queries_in
  query-at i l = kept_at 512 (query_at q) past q.next q.count hp hn i l

  -- the numbers of the i-th and the j-th
  same_iff : (i j : ℕ) → i < q.count → j < q.count
      → (like (get_or (remembered s) i past) (get_or (remembered s) j past) ≡ true) ↔ OneNumber s (place i) (place j)
  same_iff i j l m =
      let w = and_iff _ _ (eqb_iff (get_or q.lo (place j) 0) (get_or q.lo (place i) 0))
      (eqb_iff (get_or q.hi (place j) 0) (get_or q.hi (place i) 0)) in
      rw (query-at i l, query-at j m) (
        (λ e. (sym (w.0 e).0, sym (w.0 e).1)),
        (λ n. w.1 (sym n.0, sym n.1)),
      )

  once-words : no_twice (remembered s) ≡ true → (i j : ℕ) → i < j → j < q.count → OneNumber s (place i) (place j) → ⊥
  once-words e i j l m w =
      clash ((same_iff i j (omega arith) m).1 w) (apart-at past (remembered s) e i j l (omega (arith, many)))

  once_is : ((i j : ℕ) → i < j → j < q.count → OneNumber s (place i) (place j) → ⊥) → no_twice (remembered s) ≡ true
  once_is h =
      apart-all past (remembered s)
      (λ i j l m. let k : j < q.count = omega (arith, many) in
      refuted _ (λ e. h i j l k ((same_iff i j (omega arith) k).0 e)))

  askers_iff : (all (λ x. fits_in s x.asker) (remembered s) ≡ true)
      ↔ ((i : ℕ) → i < q.count → AskerWords s (get_or q.asker (place i) 0))
  unfolding queries_in
  askers_iff =
      let w = kept_iff 512 (query_at q) past q.next q.count hp hn (λ (x : Query). fits_in s x.asker) in (
        (λ e i l. (asker_iff s _).0 (w.0 e i l)),
        (λ h. w.1 (λ i l. (asker_iff s _).1 (h i l))),
      )

  hits_iff : (all (λ x. hits_fit x.hits) (remembered s) ≡ true)
      ↔ ((i : ℕ) → i < q.count → get_or q.hits (place i) 0 ≤ 200)
  unfolding queries_in
  hits_iff =
      let w = kept_iff 512 (query_at q) past q.next q.count hp hn (λ (x : Query). hits_fit x.hits) in (
        (λ e i l. leb-true _ 200 (w.0 e i l)),
        (λ h. w.1 (λ i l. le-leb _ 200 (h i l))),
      )

-- ---- the state

words_of : (s : Station) → Sized s → in_order s ≡ true → InOrderWords s
words_of s z e =
    let f = state_facts s e in
    let c : s.memory.count ≤ 512 = leb-true s.memory.count 512 f.count in
    let n : s.memory.next < 512 = ltb-true s.memory.next 512 f.next in
    record {
      count = c;
      next = n;
      once = once-words s n c f.twice;
      askers = (askers_iff s n c).0 f.askers;
      hits = (hits_iff s n c).0 f.hits;
      lines = λ l h.
          line-words s.room (line_at s l)
          (all_get_d (line_in_order s.room) s.lines l nowhere f.lines (omega (arith, z.eight)));
    }

order_of : (s : Station) → Sized s → InOrderWords s → in_order s ≡ true
order_of s z w =
    state-order s
    (record {
      count = le-leb s.memory.count 512 w.count;
      next = lt-ltb s.memory.next 512 w.next;
      twice = once_is s w.next w.count w.once;
      askers = (askers_iff s w.next w.count).1 w.askers;
      hits = (hits_iff s w.next w.count).1 w.hits;
      lines =
          all-each (line_in_order s.room) nowhere s.lines
          (λ l h. line-is s.room (line_at s l) (w.lines l (omega (arith, z.eight))));
    })

pub in_order-exactly : InOrderExactly
in_order-exactly s z = (words_of s z, order_of s z)
