-- Which calls hand an age up, and which age.
-- Assumes nothing.
use Prim.Native.Nat.{ℕ, ◌≤◌, ◌<◌}
use native.Mathlib.Omega.{arith}
use mathlib.Core.Path.{◌≡◌, refl, sym, ap, subst, ◌∙◌}
use mathlib.Core.Bool.{Bool, true, false, cond, ◌||◌}
use mathlib.Core.Logic.{◌↔◌}
use mathlib.Core.List.{List, [], ◌∷◌}
use lib.Dec.{eqb}
use lib.ListN.{length}
use borrow.Author.Tests.{ne_eqb, le-ltb, not-false}
use Rattle.laws.specs.Tests.{any}
use Rattle.laws.proofs.Refusals.{clash, no-refusal}
use Rattle.wire.specs.Header.{header_in, kind_of, ttl_of, size_of, payload_of}
use Rattle.protocol.specs.declared.Age.{Age}
use Rattle.protocol.specs.Memory.{number_in, age_of, age_behind}
use Rattle.protocol.specs.State.{Station, looked_up}
use Rattle.protocol.specs.Order.{in_order}
use Rattle.protocol.specs.Outcomes.{Terms, Outcome, quiet, leaving, unused}
use Rattle.protocol.specs.Queries.{usual_limit, has_text, query_before}
use Rattle.protocol.specs.Hits.{hit_before, hit_step}
use Rattle.protocol.specs.Calls.{own_before, own_answer, message_outcome, own_outcome}
use Rattle.protocol.specs.Arrived.{Arrived}
use Rattle.protocol.specs.Runs.{Area, Call, Open, Close, Message, Ask, World, lent, outcome_of}
use Rattle.protocol.proofs.ByType.{hit_age}
use Rattle.protocol.proofs.Arrived.{by-type, by-hit}
use Rattle.receiving.specs.Feeding.{Fed}
use Rattle.receiving.specs.Events.{HeldArea, Plain, Feed, Receiver, world_of, lent_held, fed_by, unread, whole_call}
use Rattle.receiving.proofs.Cases.{over-whole}
use Rattle.receiving.proofs.ByCase.{typed-read, of_feed}
use Rattle.receiving.proofs.Cutting.{first_one}
use Rattle.ages.specs.HandedUp.{none, aged, Tells, UpFrom, HitFound, MessageUp, OwnUp, CallUp, HandedUp, UpBelow}
use Rattle.ages.specs.HandedUp.{EventsUp}
use Rattle.ages.proofs.Told.{opening-none, closing-none, of_message-told, of_own-told}
use Rattle.ages.proofs.Behind.{hit-sent, hit-found, nine_iff, tells_iff, from-none, from-behind, behind-below}

-- the checks before the look-up
abbrev query_tests : List ℕ → List (Bool × ℕ)
query_tests m = query_before usual_limit (header_in m) (has_text (payload_of m))

abbrev own_tests : Station → List ℕ → ℕ → List ℕ → List (Bool × ℕ)
own_tests s text out route = own_before (in_order s) s.room out (length route) (length text) (any (eqb 0) text)

-- a message, clause by clause: in each, refused before its type counts, a query, a hit, or another
module _ (s : Station) (l : ℕ) (m : List ℕ) (t : Terms) (route : List ℕ) where
  abbrev outcome : Outcome
  outcome = message_outcome s l m t route

  hit-up : kind_of m ≡ 0x81 → (outcome.age.known ≡ true) ↔ HitFound m outcome.answer
  hit-up k =
      of_message-told (λ n (a : Age). (a.known ≡ true) ↔ HitFound m n) s l m t route
      (λ n u. ((λ e. absurd (clash e refl)), (λ v. absurd (clash u (hit-sent m n v)))))
      (λ _ q. absurd (omega (arith, k, q)))
      (λ _ _. hit-found m (looked_up s (number_in m)))
      (λ _ nh. absurd (nh k))

  query-up : kind_of m ≡ 0x80 → (outcome.age.known ≡ true) ↔ (outcome.answer ≡ 9)
  query-up k =
      of_message-told (λ n (a : Age). (a.known ≡ true) ↔ (n ≡ 9)) s l m t route
      (λ n u. ((λ e. absurd (clash e refl)), (λ e. absurd (clash u (ap unused e)))))
      (λ _ _. nine_iff (query_tests m) (looked_up s (number_in m)) refl refl)
      (λ _ h. absurd (omega (arith, k, h)))
      (λ nq. absurd (nq k))

  others-up : (kind_of m ≡ 0x80 → ⊥) → (kind_of m ≡ 0x81 → ⊥) → outcome.age ≡ none
  others-up nq nh =
      of_message-told (λ n (a : Age). a ≡ none) s l m t route
      (λ _ _. refl) (λ _ q. absurd (nq q)) (λ _ h. absurd (nh h)) (λ _ _ _. refl)

  from_up : UpFrom s (number_in m) outcome.age
  from_up =
      of_message-told (λ n (a : Age). UpFrom s (number_in m) a) s l m t route
      (λ _ _. from-none s (number_in m))
      (λ d _. from-behind s (number_in m) (query_tests m) (λ _. d.order))
      (λ d _. from-behind s (number_in m) (hit_before (header_in m)) (λ _. d.order))
      (λ _ _ _. from-none s (number_in m))

  -- with a payload and a TTL that its checks take, nothing refuses before the look-up
  looked-up : kind_of m ≡ 0x81 → in_order s ≡ true → Arrived s l m t.out route → 27 ≤ size_of m → 1 ≤ ttl_of m
      → (n : ℕ) → (outcome.age ≡ aged n) ↔ Tells s (number_in m) n
  unfolding hit_step
  looked-up k o a size ttl n = rw (is ∙ looked) (tells_iff s (number_in m) o n)
    where
      is : outcome.age ≡ hit_age s m
      is = ap (λ (r : Outcome). r.age) (by-type s l m t route o usual_limit a ∙ by-hit s l m t route usual_limit k)

      looked : hit_age s m ≡ age_of (looked_up s (number_in m))
      looked = rw (le-ltb (size_of m) 27 size, ne_eqb (ttl_of m) 0 (λ z. absurd (omega arith)))

  message-up : MessageUp s l m t.out route outcome
  message-up = record { hit = hit-up; query = query-up; others = others-up; from = from_up; looked = looked-up }

-- an own query: its checks before the look-up begin with the state's order
module _ (s : Station) (number text : List ℕ) (out : ℕ) (route : List ℕ) where
  own-up : OwnUp s number (own_outcome s number text out route)
  unfolding own_answer
  own-up =
      record {
        query = of_own-told (λ n (a : Age). (a.known ≡ true) ↔ (n ≡ 9)) s number text out route nine;
        from = of_own-told (λ n (a : Age). UpFrom s (number_in number) a) s number text out route
            (from-behind s (number_in number) tests (λ e. not-false (in_order s) (no-refusal tests refl e).0));
      }
    where
      tests : List (Bool × ℕ)
      tests = own_tests s text out route

      nine : ((age_behind tests (looked_up s (number_in number))).known ≡ true)
          ↔ (own_answer s number text out (length route) ≡ 9)
      nine = nine_iff tests (looked_up s (number_in number)) refl refl

pub handed-up : HandedUp
handed-up w (Open l) = opening-none w.state l
handed-up w (Close l) = closing-none w.state l
handed-up w (Message l m t a) = message-up w.state l m t (lent a w.area)
handed-up w (Ask number text t a) = own-up w.state number text t.out (lent a w.area)

-- no age is over 511
pub up-below : UpBelow
up-below w (Open l) = rw (opening-none w.state l) (omega arith)
up-below w (Close l) = rw (closing-none w.state l) (omega arith)
up-below w (Message l m t a) =
    of_message-told (λ n (a : Age). a.after < 512) w.state l m t (lent a w.area) (λ _ _. omega arith)
    (λ _ _. behind-below w.state (number_in m) (query_tests m))
    (λ _ _. behind-below w.state (number_in m) (hit_before (header_in m)))
    (λ _ _ _. omega arith)
up-below w (Ask number text t a) =
    of_own-told (λ n (a : Age). a.after < 512) w.state number text t.out (lent a w.area)
    (behind-below w.state (number_in number) (own_tests w.state text t.out (lent a w.area)))

-- what is said of a message is said of its answer and its age, whatever state is left
left_up : (w : World) (l : ℕ) (m : List ℕ) (t : Terms) (a : Area) (o : Outcome) (x : Station)
    → CallUp w (Message l m t a) o → CallUp w (Message l m t a) (leaving x o)
left_up w l m t a o x u =
    record { hit = u.hit; query = u.query; others = u.others; from = u.from; looked = u.looked }

-- bytes as a line brings them, by the four cases of such a call
module _ (w : Receiver) (l : ℕ) (bytes : List ℕ) (t : Terms) (a : Area) (h : HeldArea) where
  abbrev route : List ℕ
  route = lent a w.area

  abbrev held : List ℕ
  held = lent_held h (w.held l)

  abbrev whole : Call
  whole = whole_call w l bytes t a h

  -- the call waits, or is refused: it comes to no whole message
  abbrev aside : Fed Station → Bool
  aside f = f.waits || unread f.result.answer

  abbrev calls : Bool → List Call
  calls b = cond b [] (whole ∷ [])

  -- none where it comes to no call, and else what its call hands up
  record FedUp (f : Fed Station) : Type 0 where
    none' : calls (aside f) ≡ [] → f.result.age ≡ none
    whole' : (c : Call) → calls (aside f) ≡ c ∷ [] → CallUp (world_of w) c f.result

  no_call : (f : Fed Station) → f.result.age ≡ none → aside f ≡ true → FedUp f
  no_call f e z = record { none' = λ _. e; whole' = λ c q. absurd (omega (arith, ap length (sym q ∙ ap calls z))) }

  its-call : (f : Fed Station) → aside f ≡ false → CallUp (world_of w) whole f.result → FedUp f
  its-call f z u =
      record {
        none' = λ q. absurd (omega (arith, ap length (sym q ∙ ap calls z)));
        whole' = λ c q. subst (λ c. CallUp (world_of w) c f.result) (first_one whole c [] (sym (ap calls z) ∙ q)) u;
      }

  up : CallUp (world_of w) whole (outcome_of (world_of w) whole)
  up = handed-up (world_of w) whole

  -- refused, waiting, too large a payload, and whole
  feed-up : FedUp (fed_by w l bytes t a h)
  feed-up =
      of_feed w.state l bytes held t route FedUp
      (λ n _ _ u. no_call _ refl u)
      (λ _ _ _. no_call _ refl refl)
      (λ p _ e. its-call _ refl
      (left_up (world_of w) l _ t a (quiet 5 w.state route) _
      (subst (CallUp (world_of w) whole) (over-whole w.state l bytes held t route p e) up)))
      (λ _ _ _ b. its-call _ (typed-read _ b.answer) (left_up (world_of w) l _ t a _ _ up))

pub events-up : EventsUp
events-up w (Plain c) =
    record {
      none' = λ e. absurd (omega (arith, ap length e));
      whole = λ d e. subst (λ d. CallUp (world_of w) d (outcome_of (world_of w) c)) (first_one c d [] e)
          (handed-up (world_of w) c);
    }
events-up w (Feed l bytes t a h) = let u = feed-up w l bytes t a h in record { none' = u.none'; whole = u.whole' }
