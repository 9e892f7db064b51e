-- Which files are good, proved.
use Prim.Native.Nat.{ℕ, zero, suc, ◌+◌, ◌-◌, ◌*◌, ◌≤◌, ◌<◌}
use native.Mathlib.Decide.{dec_le}
use native.Mathlib.Omega.{arith}
use mathlib.Core.Path.{◌≡◌, refl, sym, ap, ◌∙◌}
use mathlib.Core.Bool.{Bool, true, ◌&&◌}
use mathlib.Core.List.{List}
use lib.Dec.{leb}
use lib.ListN.{length, get_or, take, drop}
use lib.Seq.{get_or-take}
use borrow.Author.Tests.{leb-true, le-leb, eq-eqb}
use Rattle.laws.specs.Tests.{all}
use Rattle.laws.proofs.Refusals.{and_fst, and_snd}
use Rattle.laws.proofs.Text.{head-drop}
use Rattle.digits.specs.Decimal.{decimal}
use Rattle.transcript.specs.Files.{count_of, offset_of, event_at, kind_of, count_from, longest, good_offsets, good_event}
use Rattle.transcript.specs.Rows.{age_text}
use Rattle.transcript.specs.Claims.{InForm, GoodExactly, Station, AgeColumn}
use Rattle.transcript.proofs.Reading.{offsets-fit, offsets-room, offsets-first, offsets-last}

-- a test of all numbers from a on, and of one of them
module _ (f : ℕ → Bool) where
  of_all : (n a i : ℕ) → all f (count_from a n) ≡ true → a ≤ i → i < a + n → f i ≡ true
  of_all zero a i h l u = absurd (omega arith)
  of_all (suc n) a i h l u = by (dec_le (suc a) i)
      (λ m. of_all n (a + 1) i (and_snd (f a) (all f (count_from (a + 1) n)) h) (omega arith) (omega arith))
    where
      by : Dec (suc a ≤ i) → (suc a ≤ i → f i ≡ true) → f i ≡ true
      by (yes m) k = k m
      by (no ne) k = let e : a ≡ i = omega arith in ap f (sym e) ∙ and_fst (f a) (all f (count_from (a + 1) n)) h

  for_all : (n a : ℕ) → ((i : ℕ) → a ≤ i → i < a + n → f i ≡ true) → all f (count_from a n) ≡ true
  for_all zero a h = refl
  for_all (suc n) a h = rw (h a (omega arith) (omega arith))
      (for_all n (a + 1) (λ i l u. h i (omega arith) (omega arith)))

-- the first byte of an event that is not empty and stands within the file
first_byte : (file : List ℕ) (o n : ℕ) → 0 < n → get_or (take n (drop o file)) 0 0 ≡ get_or file o 0
first_byte file o n h = get_or-take n (drop o file) 0 0 h ∙ head-drop file o 0

-- what the tests of one event say
module _ (file : List ℕ) (i : ℕ) where
  record Event : Type 0 where
    rises : offset_of file i + 6 ≤ offset_of file (i + 1)
    within : offset_of file (i + 1) ≤ length file
    kind : get_or file (offset_of file i) 0 ≤ 2

  kind-is : offset_of file i + 6 ≤ offset_of file (i + 1) → kind_of (event_at file i) ≡ get_or file (offset_of file i) 0
  kind-is r = first_byte file (offset_of file i) (offset_of file (i + 1) - offset_of file i) (omega arith)

  of_event : good_event file i ≡ true → Event
  unfolding good_event
  of_event g =
      let a = leb (offset_of file i + 6) (offset_of file (i + 1)) in
      let b = leb (offset_of file (i + 1)) (length file) in
      let c = leb (kind_of (event_at file i)) 2 in
      let r : offset_of file i + 6 ≤ offset_of file (i + 1) = leb-true _ _ (and_fst a (b && (c && true)) g) in
      let k : kind_of (event_at file i) ≤ 2 =
      leb-true _ _ (and_fst c true (and_snd b (c && true) (and_snd a (b && (c && true)) g))) in
      record {
        rises = r;
        within = leb-true _ _ (and_fst b (c && true) (and_snd a (b && (c && true)) g));
        kind = rw (← kind-is r) k;
      }

  to-event : Event → good_event file i ≡ true
  unfolding good_event
  to-event e =
      let k : kind_of (event_at file i) ≤ 2 = rw (kind-is e.rises) e.kind in
      rw (
        le-leb (offset_of file i + 6) (offset_of file (i + 1)) e.rises,
        le-leb (offset_of file (i + 1)) (length file) e.within,
        le-leb (kind_of (event_at file i)) 2 k,
      )

-- offsets that rise do not pass the last
module _ (file : List ℕ) (f : InForm file) where
  up_to : (k i : ℕ) → i + k ≡ count_of file → offset_of file i ≤ length file
  up_to zero i e =
      let n : i ≡ count_of file = omega arith in
      let last : offset_of file i ≡ length file = ap (offset_of file) n ∙ f.ends in
      omega arith
  up_to (suc k) i e =
      let rise : offset_of file i + 6 ≤ offset_of file (i + 1) = f.rises i (omega arith) in
      let next : offset_of file (i + 1) ≤ length file = up_to k (i + 1) (omega arith) in
      omega arith

  offsets-good : good_offsets file ≡ true
  unfolding good_offsets
  offsets-good =
      let a : 8 ≤ length file = omega (arith, f.room) in
      rw (
        le-leb (length file) longest f.size,
        le-leb 8 (length file) a,
        le-leb (8 + 4 * count_of file) (length file) f.room,
        eq-eqb (offset_of file 0) (8 + 4 * count_of file) f.begins,
        eq-eqb (offset_of file (count_of file)) (length file) f.ends,
      )

  events-good : all (good_event file) (count_from 0 (count_of file)) ≡ true
  events-good =
      for_all (good_event file) (count_of file) 0
      (λ i l u. let h : i < count_of file = omega arith in
      to-event file i
      (record {
        rises = f.rises i h;
        within = up_to (count_of file - (i + 1)) (i + 1) (omega arith);
        kind = f.kinds i h;
      }))

pub good-exactly : GoodExactly
good-exactly file = (
  (λ g.
      let o : good_offsets file ≡ true = and_fst (good_offsets file) _ g in
      let e : all (good_event file) (count_from 0 (count_of file)) ≡ true =
      and_fst _ true (and_snd (good_offsets file) _ g) in
      let at : (i : ℕ) → i < count_of file → Event file i =
      λ i h. of_event file i (of_all (good_event file) (count_of file) 0 i e (omega arith) (omega arith)) in
      record {
        size = offsets-fit file o;
        room = offsets-room file o;
        begins = offsets-first file o;
        rises = λ i h. (at i h).rises;
        ends = offsets-last file o;
        kinds = λ i h. (at i h).kind;
      }),
  (λ f. rw (offsets-good file f, events-good file f)),
)

pub station : Station
station = record { pong = refl; calls = refl; route = refl }

pub age_column : AgeColumn
unfolding age_text decimal
age_column = record { none = refl; newest = refl; hundred = refl; oldest = refl }
