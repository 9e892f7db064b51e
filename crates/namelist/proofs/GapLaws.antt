-- How gaps are closed: the texts in the order of their offsets, each moved down behind the one before it.
use Prim.Native.Nat.{ℕ, ◌+◌, ◌-◌, ◌≤◌, ◌<◌}
use mathlib.Core.Path.{◌≡◌, refl, sym, ap, ◌∙◌}
use mathlib.Core.Bool.{Bool, true, cond}
use mathlib.Core.Logic.{◌⊎◌, inl, inr, ⊎_elim}
use mathlib.Core.List.{List}
use native.Mathlib.Omega.{arith}
use native.Mathlib.Decide.{ℕ_discrete, dec_lt}
use lib.Dec.{ltb}
use lib.ListN.{length, take, drop, length-take}
use borrow.Author.Tests.{lt-ltb, le-ltb}
use Rattle.laws.specs.Parts.{over}
use Rattle.laws.proofs.Overlay.{over-same}
use Rattle.namearea.specs.declared.Span.{Span}
use Rattle.namearea.specs.Area.{most_names, text_from, count_in, span_at, pair_in, spans_of, end_of}
use Rattle.namearea.specs.Area.{name_of, name_at, names_in, total}
use Rattle.namearea.specs.Good.{good_list, rising_from}
use Rattle.namearea.proofs.SpanLaws.{pair-there}
use Rattle.namearea.proofs.GoodLaws.{Listed, listed, of_listed, names-length, names_at, name-size}
use Rattle.namelist.specs.Moves.{PairPut, TextPut, Placed}
use Rattle.namelist.specs.Gaps.{Least, Rest, Next, Movable, MovedDown, Closed}
use Rattle.namelist.proofs.MoveLaws.{text-put}
use Rattle.namelist.proofs.ListLaws.{same_name, names-are}
use Rattle.namelist.proofs.NextLaws.{rest-start}
use Rattle.namelist.proofs.SizeLaws.{size-range, sum_to, sum_same, sum_one, sum-none, sizes-total, total-most}

-- the bytes of the texts that begin before `from`
abbrev pub size_before : List ℕ → ℕ → ℕ → ℕ
size_before a from j = cond (ltb (span_at a j).offset from) (span_at a j).size 0

-- while gaps are closed: the texts that begin before `from` fill what is before `to`; the others are where they were
pub record Closing (first a : List ℕ) (from to : ℕ) : Type 0 where
  pub long : length a ≡ length first
  pub count : count_in a ≡ count_in first
  pub good : Listed a
  pub names : names_in a ≡ names_in first
  pub low : text_from ≤ to
  pub order : to ≤ from
  pub high : from ≤ length a
  pub done : (k : ℕ) → k < count_in a → (span_at a k).offset < from → end_of (span_at a k) ≤ to
  pub sum : to ≡ text_from + sum_to (size_before a from) (count_in a)

-- any two texts are apart
pub apart-any : (a : List ℕ) → Listed a → (j k : ℕ) → j < count_in a → k < count_in a → (j ≡ k → ⊥)
    → (end_of (span_at a j) ≤ (span_at a k).offset) ⊎ (end_of (span_at a k) ≤ (span_at a j).offset)
apart-any a l j k h g n = by (dec_lt j k)
  where
    by : Dec (j < k) → (end_of (span_at a j) ≤ (span_at a k).offset) ⊎ (end_of (span_at a k) ≤ (span_at a j).offset)
    by (yes p) = l.apart j k p g
    by (no p) = ⊎_elim inr inl (l.apart k j (omega arith) h)

-- the next text can be moved
pub movable : {first a : List ℕ} {from to k : ℕ} → Closing first a from to → k < count_in a → Least a from k
    → Movable a to k
movable {first} {a} {from} {to} {k} inv h next =
    let i = inv.good.inside k h in
    let p = next.some h in
    record {
      place = omega (arith, inv.good.few);
      low = inv.low;
      down = omega (arith, inv.order);
      size = (size-range a inv.good k h).1;
      fits = i.1;
    }

-- a pair whose text can be moved is one that the area has room for
pub readable : {a : List ℕ} {to k : ℕ} → Movable a to k → pair_in a k ≡ span_at a k
readable {a} {to} {k} m = pair-there a k (omega (arith, m.low, m.down, m.fits)) m.place

-- a text written further down, and then its pair
pub moved_down : {a : List ℕ} {to k : ℕ} {s : Span} {mid b : List ℕ} → s ≡ span_at a k → TextPut a to (name_of a s) mid
    → PairPut mid k (record { offset = to; size = s.size }) b → MovedDown a to k s b
moved_down {a} {to} {k} {s} {mid} {b} e t p =
    record { was = e; between = mid; text = rw (← e) t; pair = rw (← e) p }

-- a text that stands at its place already
pub stays-down : {a : List ℕ} {to k : ℕ} {s : Span} → Movable a to k → s ≡ span_at a k → s.offset ≡ to
    → MovedDown a to k s a
stays-down {a} {to} {k} {s} m e o =
    let p : (span_at a k).offset ≡ to = sym (ap (λ s. s.offset) e) ∙ o in
    let n : length (name_at a k) ≤ (span_at a k).size = simp length-take (omega arith) in
    record {
      was = e;
      between = a;
      text = text-put a to (name_at a k) a m.low (omega (arith, m.fits))
          (sym (ap (λ j. over j (name_at a k) a) (sym p) ∙ over-same (span_at a k).offset (span_at a k).size a));
      pair = record {
        long = refl;
        count = refl;
        here = ap (λ j. record { offset = j; size = (span_at a k).size }) p;
        others = λ j l ne. refl;
        text = refl;
      };
    }

-- the next text, at the pair with the least offset left, was moved
module _ (first a b : List ℕ) (from to k : ℕ) (s : Span) (inv : Closing first a from to) (h : k < count_in a)
    (next : Least a from k) (down : MovedDown a to k s b) where
  -- every other text begins before `from`, and then ends where the moved ones end; or it is behind the one moved now
  sides : (j : ℕ) → j < count_in a → (j ≡ k → ⊥)
      → (((span_at a j).offset < from) × (end_of (span_at a j) ≤ to)) ⊎ (end_of (span_at a k) ≤ (span_at a j).offset)
  sides j l n = by (dec_lt (span_at a j).offset from)
    where
      by : Dec ((span_at a j).offset < from)
          → (((span_at a j).offset < from) × (end_of (span_at a j) ≤ to)) ⊎ (end_of (span_at a k) ≤ (span_at a j).offset)
      by (yes p) = inl (p, inv.done j l p)
      by (no p) =
          let o = next.least h j l (omega arith) in
          let z = size-range a inv.good j l in
          ⊎_elim (λ q. absurd (omega arith)) inr (apart-any a inv.good j k l h n)

  place : (j : ℕ) → j < count_in a → j < most_names
  place j l = omega (arith, inv.good.few)

  counted : count_in b ≡ count_in a
  counted = down.pair.count ∙ down.text.count

  long : length b ≡ length a
  long = down.pair.long ∙ down.text.long

  other : (j : ℕ) → j < count_in a → (j ≡ k → ⊥) → span_at b j ≡ span_at a j
  other j l n = down.pair.others j (place j l) n ∙ down.text.pairs j (place j l)

  name-stays : (j : ℕ) → j < count_in a → name_at b j ≡ name_at a j
  name-stays j l = by (ℕ_discrete j k)
    where
      here : Span
      here = record { offset = to; size = (span_at a k).size }

      by : Dec (j ≡ k) → name_at b j ≡ name_at a j
      by (yes e) =
          rw e
          (ap (name_of b) down.pair.here ∙ same_name down.between b here down.pair.text inv.low
          ∙ ap (λ n. take n (drop to down.between)) (sym (name-size a inv.good k h)) ∙ down.text.here)
      by (no n) =
          let m = name-size a inv.good k h in
          let o = inv.order in
          let p = next.some h in
          ap (name_of b) (other j l n)
          ∙ same_name down.between b (span_at a j) down.pair.text (inv.good.inside j l).0
          ∙ down.text.others (span_at a j) (⊎_elim (λ q. inl q.1) (λ q. inr (omega arith)) (sides j l n))

  names-stay : names_in b ≡ names_in a
  names-stay =
      names-are b (names_in a) (counted ∙ sym (names-length (count_in a) a)) (λ i l.
      let g : i < count_in a = omega (arith, counted) in name-stays i g ∙ sym (names_at (count_in a) a i g))

  -- where each text is now
  in_text : (j : ℕ) → j < count_in b → (text_from ≤ (span_at b j).offset) × (end_of (span_at b j) ≤ length b)
  in_text j l = by (ℕ_discrete j k)
    where
      by : Dec (j ≡ k) → (text_from ≤ (span_at b j).offset) × (end_of (span_at b j) ≤ length b)
      by (yes e) =
          let i = inv.good.inside k h in
          let p = next.some h in
          rw (e, down.pair.here) (inv.low, omega (arith, inv.order, long))
      by (no n) =
          let g : j < count_in a = omega (arith, counted) in
          let i = inv.good.inside j g in
          rw (other j g n) (i.0, omega (arith, long))

  -- the moved text and another
  moved_apart : (j : ℕ) → j < count_in a → (j ≡ k → ⊥)
      → (end_of (span_at b j) ≤ (span_at b k).offset) ⊎ (end_of (span_at b k) ≤ (span_at b j).offset)
  moved_apart j l n =
      let p = next.some h in
      let o = inv.order in
      rw (other j l n, down.pair.here) (⊎_elim (λ q. inl q.1) (λ q. inr (omega arith)) (sides j l n))

  two-apart : (i j : ℕ) → i < j → j < count_in b
      → (end_of (span_at b i) ≤ (span_at b j).offset) ⊎ (end_of (span_at b j) ≤ (span_at b i).offset)
  two-apart i j g l = by (ℕ_discrete i k) (ℕ_discrete j k)
    where
      by : Dec (i ≡ k) → Dec (j ≡ k)
          → (end_of (span_at b i) ≤ (span_at b j).offset) ⊎ (end_of (span_at b j) ≤ (span_at b i).offset)
      by (yes e) _ =
          let m : j ≡ k → ⊥ = λ f. omega arith in
          rw e (⊎_elim inr inl (moved_apart j (omega (arith, counted)) m))
      by (no n) (yes e) = rw e (moved_apart i (omega (arith, counted)) n)
      by (no n) (no m) =
          let t : j < count_in a = omega (arith, counted) in
          let s : i < count_in a = omega arith in
          rw (other i s n, other j t m) (inv.good.apart i j g t)

  good-again : Listed b
  good-again =
      record {
        few = omega (arith, counted, inv.good.few);
        inside = in_text;
        apart = two-apart;
        named = rw names-stay inv.good.named;
        distinct = rw names-stay inv.good.distinct;
      }

  ends_by : (j : ℕ) → j < count_in b → (span_at b j).offset < end_of (span_at a k)
      → end_of (span_at b j) ≤ to + (span_at a k).size
  ends_by j l = by (ℕ_discrete j k)
    where
      by : Dec (j ≡ k) → (span_at b j).offset < end_of (span_at a k) → end_of (span_at b j) ≤ to + (span_at a k).size
      by (yes e) = rw (e, down.pair.here) (λ q. omega arith)
      by (no n) =
          let g : j < count_in a = omega (arith, counted) in
          rw (other j g n) (λ q. ⊎_elim (λ p. omega arith) (λ p. absurd (omega arith)) (sides j g n))

  summed : sum_to (size_before b (end_of (span_at a k))) (count_in a)
      ≡ sum_to (size_before a from) (count_in a) + (span_at a k).size
  summed =
      sum_one (size_before a from) (size_before b (end_of (span_at a k))) (count_in a) k h none each
      ∙ ap (λ n. sum_to (size_before a from) (count_in a) + n) one
    where
      none : size_before a from k ≡ 0
      none = rw (le-ltb (span_at a k).offset from (next.some h))

      one : size_before b (end_of (span_at a k)) k ≡ (span_at a k).size
      one =
          let z = size-range a inv.good k h in
          let p = next.some h in
          let q : to < end_of (span_at a k) = omega (arith, inv.order) in
          rw (down.pair.here, lt-ltb to (end_of (span_at a k)) q)

      each : (j : ℕ) → j < count_in a → (j ≡ k → ⊥) → size_before a from j ≡ size_before b (end_of (span_at a k)) j
      each j l n =
          let p = next.some h in
          rw (other j l n)
          (⊎_elim
          (λ q.
          let r : (span_at a j).offset < end_of (span_at a k) = omega arith in
          rw (lt-ltb (span_at a j).offset from q.0, lt-ltb (span_at a j).offset (end_of (span_at a k)) r))
          (λ q.
          let r : from ≤ (span_at a j).offset = omega arith in
          rw (le-ltb (span_at a j).offset from r, le-ltb (span_at a j).offset (end_of (span_at a k)) q))
          (sides j l n))

  pub close-step : Closing first b (end_of (span_at a k)) (to + (span_at a k).size)
  close-step =
      let i = inv.good.inside k h in
      let p = next.some h in
      record {
        long = long ∙ inv.long;
        count = counted ∙ inv.count;
        good = good-again;
        names = names-stay ∙ inv.names;
        low = omega (arith, inv.low);
        order = omega (arith, inv.order);
        high = omega (arith, long);
        done = ends_by;
        sum =
            rw counted (omega (arith, summed, inv.sum));
      }

  -- where offsets rise, the pairs left rise still
  pub rest-step : Rest a k from → Rest b (k + 1) (end_of (span_at a k))
  rest-step r = record { gone = gone; still = still; order = order }
    where
      behind : (j : ℕ) → k + 1 ≤ j → j < count_in b → span_at b j ≡ span_at a j
      behind j g l = other j (omega (arith, counted)) (λ e. omega arith)

      gone : (j : ℕ) → j < k + 1 → j < count_in b → (span_at b j).offset < end_of (span_at a k)
      gone j g l = by (ℕ_discrete j k)
        where
          by : Dec (j ≡ k) → (span_at b j).offset < end_of (span_at a k)
          by (yes e) =
              let z = size-range a inv.good k h in
              let p = next.some h in
              rw (e, down.pair.here) (omega (arith, inv.order))
          by (no n) =
              let m : j < count_in a = omega (arith, counted) in
              let p = next.some h in
              let q = r.gone j (omega arith) m in
              rw (other j m n) (omega arith)

      still : (j : ℕ) → k + 1 ≤ j → j < count_in b → end_of (span_at a k) ≤ (span_at b j).offset
      still j g l = rw (behind j g l) (r.order k j (omega arith) (omega arith) (omega (arith, counted)))

      order : (j i : ℕ) → k + 1 ≤ j → j < i → i < count_in b → end_of (span_at b j) ≤ (span_at b i).offset
      order j i g o l =
          rw (behind j g (omega arith), behind i (omega arith) l)
          (r.order j i (omega arith) o (omega (arith, counted)))

-- at first nothing is moved
pub close-start : (a : List ℕ) → good_list a ≡ true → text_from ≤ length a → Closing a a text_from text_from
close-start a e h =
    let l = listed a e in
    record {
      long = refl;
      count = refl;
      good = l;
      names = refl;
      low = omega arith;
      order = omega arith;
      high = h;
      done = λ k i p. let t = l.inside k i in absurd (omega arith);
      sum = ap (λ n. text_from + n) (sym (sum-none (size_before a text_from) (count_in a) (none l)));
    }
  where
    none : Listed a → (j : ℕ) → j < count_in a → size_before a text_from j ≡ 0
    none l j i = rw (le-ltb (span_at a j).offset text_from (l.inside j i).0)

-- at last every text is moved
pub close-end : {first a : List ℕ} {from to : ℕ} → Closing first a from to
    → ((j : ℕ) → j < count_in a → (span_at a j).offset < from) → Closed first to a
close-end {first} {a} {from} {to} inv h =
    record {
      long = inv.long;
      good = of_listed a inv.good;
      listed = inv.names;
      count = inv.count;
      all =
          inv.sum
          ∙ ap (λ n. text_from + n)
          (sum_same (size_before a from) (λ j. (span_at a j).size) (count_in a) every
          ∙ sizes-total a inv.good (count_in a) (omega arith) ∙ ap total inv.names);
      above = λ k l. inv.done k l (h k l);
    }
  where
    every : (j : ℕ) → j < count_in a → size_before a from j ≡ (span_at a j).size
    every j l = rw (lt-ltb (span_at a j).offset from (h j l))

-- ---- the loop

-- before each turn; where offsets rise, i texts are moved
pub record Turn (first a : List ℕ) (rising : Bool) (i from to : ℕ) : Type 0 where
  pub closing : Closing first a from to
  pub rest : rising ≡ true → Rest a i from
  pub turns : i ≤ from
  pub within : rising ≡ true → i ≤ count_in a

pub turn-first : (a : List ℕ) (rising : Bool) → good_list a ≡ true → text_from ≤ length a
    → rising ≡ rising_from 0 (spans_of (count_in a) a) → Turn a a rising 0 text_from text_from
turn-first a rising e h r =
    record { closing = close-start a e h; rest = λ t. rest-start a e (sym r ∙ t); turns = omega arith; within = λ t. omega arith }

pub turn-next : {first a b : List ℕ} {rising : Bool} {i from to k : ℕ} {s : Span} → Turn first a rising i from to
    → k < count_in a → Next a rising i from k → MovedDown a to k s b
    → Turn first b rising (i + 1) (end_of s) (to + s.size)
turn-next {first} {a} {b} {rising} {i} {from} {to} {k} {s} t h n d =
    let c = t.closing in
    let p = n.which.some h in
    let z = size-range a c.good k h in
    let step = close-step first a b from to k s c h n.which d in
    rw d.was
    (record {
      closing = step;
      rest =
          λ e.
          rw (← n.same e)
          (rest-step first a b from to k s c h n.which d (rw (n.same e) (t.rest e)));
      turns = omega (arith, t.turns);
      within = λ e. omega (arith, n.same e, step.count, c.count);
    })

-- a turn goes on from further behind
pub turn-less : {first a : List ℕ} {rising : Bool} {i from to k : ℕ} → Turn first a rising i from to → k < count_in a
    → Next a rising i from k
    → (from < end_of (span_at a k)) × (end_of (span_at a k) ≤ length first) × (to + (span_at a k).size ≤ end_of (span_at a k))
turn-less {first} {a} {rising} {i} {from} {to} {k} t h n =
    let c = t.closing in
    let p = n.which.some h in
    let z = size-range a c.good k h in
    let g = c.good.inside k h in
    (omega arith, omega (arith, c.long), omega (arith, c.order))

-- ---- room behind all texts

-- closed gaps leave it there, and so few bytes have offsets of 4 bytes
pub closed-room : {a : List ℕ} {n r : ℕ} {b : List ℕ} → good_list a ≡ true → text_from ≤ length a
    → total (names_in a) + n ≤ length a - text_from → Closed a r b → Placed a n r b
closed-room {a} {n} {r} {b} e h g c =
    let l = listed a e in
    let m = total-most a l (count_in a) (omega arith) in
    let f = l.few in
    record {
      long = c.long;
      good = c.good;
      listed = c.listed;
      count = c.count;
      low = omega (arith, c.all);
      fits = omega (arith, c.all, c.long);
      small = omega (arith, c.all);
      above = c.above;
    }
