-- Refusals exactly when the table gives them, proved: an ordered list of tests gives a number that stands in it once
-- exactly if its test is the first that holds.
-- Assumes nothing.
use Prim.Native.Nat.{ℕ, zero, suc, ◌/◌, ◌≤◌, ◌<◌}
use native.Mathlib.Omega.{arith}
use mathlib.Core.Path.{◌≡◌, refl, sym, ap, ◌∙◌}
use mathlib.Core.Bool.{Bool, true, false, not, ◌&&◌, ◌||◌, false≢true}
use mathlib.Core.Logic.Iff
use mathlib.Core.Logic.{◌↔◌, ⊎_elim}
use mathlib.Core.List.{List, [], ◌∷◌, ◌++◌}
use lib.Dec.{eqb, leb, ltb}
use lib.ListN.{length, get_or, drop}
use borrow.Author.Tests.{eqb-true, eq-eqb}
use Rattle.laws.specs.Tests.{first_of, any, all}
use Rattle.laws.proofs.Refusals.{clash, or_split, or_left, or_right, all_weaken}
use Rattle.laws.proofs.Words.{or_iff, none_iff, some_iff, no_iff, yes_iff, eqb_iff, other_iff, less_iff, not-less_iff}
use Rattle.laws.proofs.Words.{least_iff, most_iff, first_iff, past_iff, refuted}
use Rattle.wire.specs.Header.{header_in, kind_of, ttl_of, hops_of, size_of, payload_of}
use Rattle.protocol.specs.State.{Station, looked_up, line_at}
use Rattle.protocol.specs.Memory.{number_in}
use Rattle.protocol.specs.Order.{in_order}
use Rattle.protocol.specs.Outcomes.{Terms, Outcome}
use Rattle.protocol.specs.Queries.{usual_limit, has_text, not_allowed, query_after}
use Rattle.protocol.specs.Calls.{not_open, extent_rules, own_answer, own_taken, asking, message_outcome}
use Rattle.protocol.specs.Calls.{own_outcome}
use Rattle.protocol.specs.Blind.{type_rules, unnamed}
use Rattle.protocol.specs.Arrived.{Areas, Arrived}
use Rattle.protocol.specs.Exactly.{AreasUnfit, LineNotOpen, Named, ZeroFrom, NotAllowed, EarlyExactly}
use Rattle.protocol.specs.Exactly.{QueryExactly, OwnExactly, Exactly}
use Rattle.protocol.proofs.Outcomes.{answer-taken}
use Rattle.protocol.proofs.Blind.{after_early, type-number, numbers, types_all}
use Rattle.protocol.proofs.Arrived.{bad_areas, areas_of, areas-fit, by-type}

-- the words of the tests
module _ (s : Station) (out : ℕ) (route : List ℕ) where
  unfit_iff : (bad_areas s out route ≡ true) ↔ AreasUnfit s out route
  unfit_iff =
      let n : ℕ = length route in
      or_iff (ltb out 4119) (ltb n 32 || not (eqb (n / 8) s.room)) (less_iff out 4119)
      (or_iff (ltb n 32) (not (eqb (n / 8) s.room)) (less_iff n 32) (other_iff (n / 8) s.room))

  fit_iff : (bad_areas s out route ≡ false) ↔ Areas s out route
  fit_iff = (areas_of s out route, areas-fit s out route)

pub closed_iff : (s : Station) (l : ℕ) → (not_open l (line_at s l).live ≡ true) ↔ LineNotOpen s l
closed_iff s l = or_iff (not (ltb l 8)) (not (line_at s l).live) (least_iff l 8) (no_iff (line_at s l).live)

named_iff : (m : List ℕ) → (any (eqb (kind_of m)) (0x00 ∷ 0x01 ∷ 0x30 ∷ 0x80 ∷ 0x81 ∷ []) ≡ true) ↔ Named m
named_iff m =
    let k : ℕ = kind_of m in
    or_iff (eqb k 0x00) _ (eqb_iff k 0x00)
    (or_iff (eqb k 0x01) _ (eqb_iff k 0x01)
    (or_iff (eqb k 0x30) _ (eqb_iff k 0x30)
    (or_iff (eqb k 0x80) _ (eqb_iff k 0x80) (last k))))
  where
    last : (k : ℕ) → ((eqb k 0x81 || false) ≡ true) ↔ (k ≡ 0x81)
    last k = (
      (λ e. ⊎_elim (eqb-true k 0x81) (λ z. absurd (false≢true z)) (or_split (eqb k 0x81) false e)),
      (λ e. or_left (eqb k 0x81) false (eq-eqb k 0x81 e)),
    )

-- a zero byte at an index or later
zero-from : (k : ℕ) (p : List ℕ) → any (eqb 0) (drop k p) ≡ true → ZeroFrom k p
zero-from zero [] e = absurd (false≢true e)
zero-from (suc k) [] e = absurd (false≢true e)
zero-from zero (b ∷ bs) e = by (eqb 0 b) refl e (zero-from zero bs)
  where
    by : (t : Bool) → eqb 0 b ≡ t → (t || any (eqb 0) bs) ≡ true → (any (eqb 0) bs ≡ true → ZeroFrom zero bs)
        → ZeroFrom zero (b ∷ bs)
    by true h e f = record { index = 0; behind = omega arith; within = omega arith; zero = sym (eqb-true 0 b h) }
    by false h e f =
        let z : ZeroFrom zero bs = f e in
        let w : z.index < length bs = z.within in
        record { index = suc z.index; behind = omega arith; within = omega arith; zero = z.zero }
zero-from (suc k) (b ∷ bs) e =
    let z : ZeroFrom k bs = zero-from k bs e in
    let w : z.index < length bs = z.within in
    let v : k ≤ z.index = z.behind in
    record { index = suc z.index; behind = omega arith; within = omega arith; zero = z.zero }

from_zero_lem : (k : ℕ) (p : List ℕ) (i : ℕ) → k ≤ i → i < length p → get_or p i 1 ≡ 0 → any (eqb 0) (drop k p) ≡ true
from_zero_lem k [] i a b z = absurd (omega arith)
from_zero_lem zero (x ∷ xs) zero a b z = or_left (eqb 0 x) (any (eqb 0) xs) (eq-eqb 0 x (sym z))
from_zero_lem zero (x ∷ xs) (suc i) a b z =
    or_right (eqb 0 x) (any (eqb 0) xs) (from_zero_lem zero xs i (omega arith) (omega arith) z)
from_zero_lem (suc k) (x ∷ xs) zero a b z = absurd (omega arith)
from_zero_lem (suc k) (x ∷ xs) (suc i) a b z = from_zero_lem k xs i (omega arith) (omega arith) z

pub zero_iff : (k : ℕ) (p : List ℕ) → (any (eqb 0) (drop k p) ≡ true) ↔ ZeroFrom k p
zero_iff k p = (zero-from k p, (λ z. from_zero_lem k p z.index z.behind z.within z.zero))

allowed_iff : (m : List ℕ) → (not_allowed usual_limit (header_in m) ≡ true) ↔ NotAllowed m
allowed_iff m =
    or_iff (eqb (ttl_of m) 0) (ltb 15 (ttl_of m) || leb 7 (hops_of m)) (eqb_iff (ttl_of m) 0)
    (or_iff (ltb 15 (ttl_of m)) (leb 7 (hops_of m)) (less_iff 15 (ttl_of m)) (most_iff 7 (hops_of m)))

-- a message call
module _ (s : Station) (l : ℕ) (m : List ℕ) (t : Terms) (route : List ℕ) where
  abbrev answer : ℕ
  answer = (message_outcome s l m t route).answer

  abbrev bad : Bool
  bad = bad_areas s t.out route

  abbrev from_extent : List (Bool × ℕ)
  from_extent = extent_rules (length m) (size_of m) ++ after_early s l m t route

  abbrev from_line : List (Bool × ℕ)
  from_line = (not_open l (line_at s l).live, 3) ∷ from_extent

  abbrev from_areas : List (Bool × ℕ)
  from_areas = (bad, 2) ∷ from_line

  -- the numbers of the types' rules: 6, and 8 and up
  abbrev typed : ℕ → Bool
  typed n = leb 6 n && not (eqb n 7)

  lacks : (n : ℕ) → typed n ≡ false → all (λ c. not (eqb c.1 n)) (type_rules s l t.clock m route) ≡ true
  lacks n h =
      all_weaken (λ c. typed c.1) (λ c. not (eqb c.1 n)) (type_rules s l t.clock m route)
      (λ c p. ap not (refuted _ (λ e. clash p (ap typed (eqb-true c.1 n e) ∙ h))))
      (types_all s l m t route (λ c. typed c.1) refl refl refl refl refl)

  early-exactly : EarlyExactly s l t.out route answer
  early-exactly =
      rw (numbers s l m t route)
      (record {
        one = Iff.trans (first_iff 1 (not (in_order s)) from_areas (lacks 1 refl) refl) (no_iff (in_order s));
        two =
            past_iff 2 (not (in_order s)) 1 from_areas refl (yes_iff (in_order s))
            (Iff.trans (first_iff 2 bad from_line (lacks 2 refl) refl) (unfit_iff s t.out route));
        three =
            past_iff 3 (not (in_order s)) 1 from_areas refl (yes_iff (in_order s))
            (past_iff 3 bad 2 from_line refl (fit_iff s t.out route)
            (Iff.trans (first_iff 3 (not_open l (line_at s l).live) from_extent (lacks 3 refl) refl) (closed_iff s l)));
      })

  -- 7, and 6 and 8 of a query, of a message that has arrived
  module _ (o : in_order s ≡ true) (a : Arrived s l m t.out route) where
    pub by-its-type : answer ≡ first_of (after_early s l m t route)
    by-its-type = ap (λ (r : Outcome). r.answer) (by-type s l m t route o usual_limit a) ∙ type-number s l m t route

    seven-exactly : (answer ≡ 7) ↔ (Named m → ⊥)
    seven-exactly =
        rw by-its-type
        (Iff.trans (first_iff 7 (unnamed m) (type_rules s l t.clock m route) (lacks 7 refl) refl)
        (none_iff _ (named_iff m)))

    module _ (k : kind_of m ≡ 0x80) where
      abbrev unfit : Bool
      unfit = not_allowed usual_limit (header_in m)

      abbrev last : List (Bool × ℕ)
      last = query_after (looked_up s (number_in m))

      abbrev text : Bool
      text = has_text (payload_of m)

      query-exactly : QueryExactly m answer
      query-exactly =
          rw (by-its-type, k)
          (record {
            six =
                Iff.trans (first_iff 6 (not text) ((unfit, 8) ∷ last) refl refl)
                (none_iff text (zero_iff 2 (payload_of m)));
            eight =
                past_iff 8 (not text) 6 ((unfit, 8) ∷ last) refl
                (some_iff text (zero_iff 2 (payload_of m)))
                (Iff.trans (first_iff 8 unfit last refl refl) (allowed_iff m));
          })

-- an own query
module _ (s : Station) (number text : List ℕ) (out : ℕ) (route : List ℕ) where
  abbrev from_number : List (Bool × ℕ)
  from_number = query_after (looked_up s (number_in number))

  abbrev from_zero : List (Bool × ℕ)
  from_zero = (any (eqb 0) text, 6) ∷ from_number

  abbrev from_size : List (Bool × ℕ)
  from_size = (ltb 4093 (length text), 5) ∷ from_zero

  abbrev from_room : List (Bool × ℕ)
  from_room = (bad_areas s out route, 2) ∷ from_size

  pub own-answer : (own_outcome s number text out route).answer ≡ first_of ((not (in_order s), 1) ∷ from_room)
  unfolding asking own_answer
  own-answer = answer-taken _ s route (own_taken usual_limit s number text route) refl

  -- in order; and with areas that fit
  ordered : (n : ℕ) {X : Type 0} → eqb 1 n ≡ false → (first_of from_room ≡ n) ↔ X
      → (first_of ((not (in_order s), 1) ∷ from_room) ≡ n) ↔ ((in_order s ≡ true) × X)
  ordered n h x = past_iff n (not (in_order s)) 1 from_room h (yes_iff (in_order s)) x

  fitted : (n : ℕ) {X : Type 0} → eqb 1 n ≡ false → eqb 2 n ≡ false → (first_of from_size ≡ n) ↔ X
      → (first_of ((not (in_order s), 1) ∷ from_room) ≡ n) ↔ ((in_order s ≡ true) × (Areas s out route × X))
  fitted n h g x = ordered n h (past_iff n (bad_areas s out route) 2 from_size g (fit_iff s out route) x)

  own-exactly : OwnExactly s text out route (own_outcome s number text out route).answer
  own-exactly =
      rw own-answer
      (record {
        one = Iff.trans (first_iff 1 (not (in_order s)) from_room refl refl) (no_iff (in_order s));
        two =
            ordered 2 refl
            (Iff.trans (first_iff 2 (bad_areas s out route) from_size refl refl) (unfit_iff s out route));
        five =
            fitted 5 refl refl
            (Iff.trans (first_iff 5 (ltb 4093 (length text)) from_zero refl refl) (less_iff 4093 (length text)));
        six =
            fitted 6 refl refl
            (past_iff 6 (ltb 4093 (length text)) 5 from_zero refl
            (not-less_iff 4093 (length text))
            (Iff.trans (first_iff 6 (any (eqb 0) text) from_number refl refl) (zero_iff 0 text)));
      })

pub exactly : Exactly
exactly = record { early = early-exactly; seven = seven-exactly; query = query-exactly; asks = own-exactly }
