-- One call that brings bytes, from outside: its answer as one ordered list, and the bytes that it uses.
-- Assumes nothing.
use Prim.Native.Nat.{ℕ, ◌+◌, ◌-◌, ◌≤◌}
use native.Mathlib.Omega.{arith}
use mathlib.Core.Path.{◌≡◌, refl, sym, ap, ◌∙◌}
use mathlib.Core.Bool.{Bool, true, false, cond}
use mathlib.Core.Logic.{inl, inr}
use mathlib.Core.List.{List, [], ◌∷◌, ◌++◌}
use lib.Dec.{eqb, ltb}
use lib.ListN.{length, length-append, length-take}
use borrow.Author.Tests.{eqb-true, eq-eqb, ne_eqb, lt-ltb, le-ltb}
use Rattle.laws.specs.Tests.{first_of}
use Rattle.laws.proofs.Refusals.{clash, first_append}
use Rattle.wire.specs.Header.{size_of}
use Rattle.protocol.specs.State.{Station, line_at}
use Rattle.protocol.specs.Outcomes.{Terms, Outcome}
use Rattle.protocol.specs.Blind.{type_rules, unnamed}
use Rattle.protocol.proofs.Blind.{type-number}
use Rattle.receiving.specs.Feeding.{extent_of, size_at_front, front_of, held_bytes, waiting}
use Rattle.receiving.specs.Events.{unread}
use Rattle.receiving.specs.Calls.{Unfinished, TooLarge, WholeAt, in_all, held_count, before, Numbered, Uses}
use Rattle.receiving.specs.Calls.{FeedNumbers, FeedStarts, FeedUses}
use Rattle.receiving.proofs.Extents.{four_is, is-four, five-is, zero_is, starts-short, front-there, front-past}
use Rattle.receiving.proofs.Cases.{Passed}
use Rattle.receiving.proofs.ByCase.{not-unread, typed-other, of_feed, of_refused, of_waits, of_over, of_whole}

not-empty : (b : List ℕ) → (b ≡ [] → ⊥) → 1 ≤ length b
not-empty [] n = absurd (n refl)
not-empty (x ∷ b) n = omega arith

module _ (s : Station) (l : ℕ) (bytes held : List ℕ) (t : Terms) (route : List ℕ) where
  abbrev h : ℕ
  h = held_count s l bytes held t route

  abbrev j : List ℕ
  j = in_all s l bytes held t route

  -- the refusals before the bytes count, and after
  abbrev early : List (Bool × ℕ)
  early = before s l bytes held t route

  abbrev late : List (Bool × ℕ)
  late = (ltb 4096 (size_of j), 5) ∷ (unnamed (front_of j), 7) ∷ type_rules s l t.clock (front_of j) route

  first-is : (k : ℕ) → first_of early ≡ k → first_of (early ++ late) ≡ cond (eqb k 0) (first_of late) k
  first-is k e = first_append early late refl ∙ ap (λ n. cond (eqb n 0) (first_of late) n) e

  numbered : Numbered s l bytes held t route
  numbered =
      record {
        waits = (
          of_waits s l bytes held t route (λ _. (first_of early ≡ 0) × Unfinished j) (λ _ z e. (z, four_is j e)),
          λ u. let four : extent_of j ≡ 4 = is-four j u.1 in
              of_feed s l bytes held t route (λ f. f.waits ≡ true)
              (λ n e z _. absurd (z (sym e ∙ u.0)))
              (λ _ _ _. refl)
              (λ _ _ e. absurd (omega arith))
              (λ _ _ e _. absurd (omega arith)),
        );
        answer =
            of_feed s l bytes held t route (λ f. f.waits ≡ false → f.result.answer ≡ first_of (early ++ late))
            (λ n e z _ _. sym (first-is n e ∙ rw (ne_eqb n 0 z)))
            (λ _ _ _ w. absurd (clash refl w))
            (λ _ z e _. sym (first-is 0 z ∙ rw (lt-ltb 4096 (size_of j) (five-is j e).1)))
            (λ _ z e b _. ap (λ (o : Outcome). o.answer) b.arrives ∙ type-number s l (front_of j) t route
            ∙ sym (first-is 0 z ∙ rw (le-ltb 4096 (size_of j) (zero_is j e).0)));
        no_four =
            of_feed s l bytes held t route (λ f. f.result.answer ≡ 4 → ⊥)
            (λ n _ _ u. not-unread n 4 u refl)
            (λ _ _ _ e. omega arith)
            (λ _ _ _ e. omega arith)
            (λ _ _ _ b. typed-other _ 4 b.answer (omega arith, inl (omega arith)));
        no_number = of_waits s l bytes held t route (λ f. f.result.answer ≡ waiting) (λ _ _ _. refl);
        no_other =
            of_feed s l bytes held t route (λ f. f.result.answer ≡ waiting → f.waits ≡ true)
            (λ n _ _ u e. absurd (not-unread n waiting u refl e))
            (λ _ _ _ _. refl)
            (λ _ _ _ e. absurd (omega arith))
            (λ _ _ _ b e.
            absurd (typed-other _ waiting b.answer (omega arith, inr (omega arith, inr (omega arith))) e));
      }

  -- how long the message at the front is
  size-by : (n : ℕ) → extent_of j ≡ n → size_at_front j ≡ cond (eqb n 5) 23 (23 + size_of j)
  size-by n e = ap (λ k. cond (eqb k 5) 23 (23 + size_of j)) e

  -- it takes at least one of the bytes brought, and at most all
  module _ (p : Passed s l bytes held t route) (n : extent_of j ≡ 4 → ⊥) where
    pub taken-most : size_at_front j - h ≤ length bytes
    taken-most = omega (arith, front-there j n, length-append (held_bytes (line_at s l) held) bytes, p.counted)

    pub taken-some : 1 ≤ size_at_front j - h
    taken-some = omega (arith, front-past (held_bytes (line_at s l) held) bytes p.begun n, p.counted)

  uses : Uses s l bytes held t route
  uses =
      record {
        unread' = of_refused s l bytes held t route (λ f. f.used ≡ 0) (λ _ _ _ _. refl);
        waiting' = of_waits s l bytes held t route (λ f. f.used ≡ length bytes) (λ _ _ _. refl);
        over = of_over s l bytes held t route (λ f. (f.used ≡ 23 - h) × TooLarge j) (λ _ _ e. (refl, five-is j e));
        whole =
            of_whole s l bytes held t route (λ f. (f.used ≡ 23 + size_of j - h) × WholeAt j)
            (λ _ _ e _. (ap (λ n. n - h) (size-by 0 e), zero_is j e));
        most =
            of_feed s l bytes held t route (λ f. f.used ≤ length bytes)
            (λ _ _ _ _. omega arith)
            (λ _ _ _. omega arith)
            (λ p _ e. rw (size-by 5 e) at (taken-most p (λ f. omega arith)))
            (λ p _ e _. taken-most p (λ f. omega arith));
        some = λ b.
            of_feed s l bytes held t route (λ f. unread f.result.answer ≡ false → 1 ≤ f.used)
            (λ _ _ _ u v. absurd (clash u v))
            (λ _ _ _ _. not-empty bytes b)
            (λ p _ e _. rw (size-by 5 e) at (taken-some p (λ f. omega arith)))
            (λ p _ e _ _. taken-some p (λ f. omega arith));
      }

pub feed-numbers : FeedNumbers
feed-numbers = numbered

pub feed-starts : FeedStarts
feed-starts s l bytes held t route =
    record {
      exactly = ((λ e. four_is b (eqb-true (extent_of b) 4 e)), (λ u. eq-eqb (extent_of b) 4 (is-four b u)));
      counted = λ long e.
          let short : length b ≤ 4118 = starts-short b (eqb-true (extent_of b) 4 e) in
          omega (arith, length-take (line_at s l).pending.count held);
    }
  where
    b : List ℕ
    b = held_bytes (line_at s l) held

pub feed-uses : FeedUses
feed-uses = uses
