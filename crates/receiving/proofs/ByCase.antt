-- What holds in each case of a call that brings bytes holds of the call; and in which case it is, by what it gives.
-- Assumes nothing.
use Prim.Native.Nat.{ℕ, ◌+◌, ◌≤◌, ◌<◌}
use native.Mathlib.Omega.{arith}
use mathlib.Core.Path.{◌≡◌, refl, sym, ap, ◌∙◌, subst}
use mathlib.Core.Bool.{true, false}
use mathlib.Core.Logic.{◌⊎◌, inl, inr}
use mathlib.Core.List.{List}
use lib.ListN.{length}
use borrow.Author.Tests.{ne_eqb}
use Rattle.laws.specs.Tests.{first_of}
use Rattle.laws.proofs.Refusals.{clash}
use Rattle.protocol.specs.State.{Station}
use Rattle.protocol.specs.Outcomes.{Terms}
use Rattle.receiving.specs.Feeding.{Fed, extent_of, size_at_front, holding, shut_line, on_line, dropped}
use Rattle.receiving.specs.Feeding.{refused_feed, waiting_feed, over_feed, whole_feed}
use Rattle.receiving.specs.Events.{unread}
use Rattle.receiving.specs.Calls.{fed, in_all, held_count, before}
use Rattle.receiving.proofs.Cases.{Typed, Passed, ByType, outcome, FeedCase, Refused, Waits, Over, Whole}
use Rattle.receiving.proofs.Cases.{feed-case}

-- an answer that leaves the bytes is none that takes them
pub not-unread : (n k : ℕ) → unread n ≡ true → unread k ≡ false → n ≡ k → ⊥
not-unread n k u v e = clash u (ap unread e ∙ v)

-- what an answer by the message's type is not: 1 to 5, 17 to 20, and more than 21
abbrev pub Untyped : ℕ → Type 0
Untyped k = (1 ≤ k) × ((k < 6) ⊎ ((16 < k) × ((k < 21) ⊎ (21 < k))))

pub typed-other : (n k : ℕ) → Typed n → Untyped k → n ≡ k → ⊥
typed-other n k (inl a) (p, q) e = omega arith
typed-other n k (inr (inl a)) (p, inl q) e = omega arith
typed-other n k (inr (inl a)) (p, inr (q, r)) e = omega arith
typed-other n k (inr (inr a)) (p, inl q) e = omega arith
typed-other n k (inr (inr a)) (p, inr (q, inl r)) e = omega arith
typed-other n k (inr (inr a)) (p, inr (q, inr r)) e = omega arith

pub typed-read : (n : ℕ) → Typed n → unread n ≡ false
typed-read n a =
    let not1 = ne_eqb n 1 (typed-other n 1 a (omega arith, inl (omega arith))) in
    let not2 = ne_eqb n 2 (typed-other n 2 a (omega arith, inl (omega arith))) in
    let not3 = ne_eqb n 3 (typed-other n 3 a (omega arith, inl (omega arith))) in
    let not19 = ne_eqb n 19 (typed-other n 19 a (omega arith, inr (omega arith, inl (omega arith)))) in
    rw (not1, not2, not3, not19)

module _ (s : Station) (l : ℕ) (bytes held : List ℕ) (t : Terms) (route : List ℕ) where
  abbrev h : ℕ
  h = held_count s l bytes held t route

  abbrev extent : ℕ
  extent = extent_of (in_all s l bytes held t route)

  -- the first refusal before the bytes count
  abbrev pub refusal : ℕ
  refusal = first_of (before s l bytes held t route)

  abbrev call : Fed Station
  call = fed s l bytes held t route

  -- the four cases
  abbrev pub IfRefused : (Fed Station → Type 0) → Type 0
  IfRefused P = (n : ℕ) → refusal ≡ n → (n ≡ 0 → ⊥) → unread n ≡ true → P (refused_feed h bytes held route n s)

  abbrev pub IfWaits : (Fed Station → Type 0) → Type 0
  IfWaits P = Passed s l bytes held t route → refusal ≡ 0 → extent ≡ 4
      → P (waiting_feed h bytes held route (on_line (holding (h + length bytes)) l s))

  abbrev pub IfOver : (Fed Station → Type 0) → Type 0
  IfOver P = Passed s l bytes held t route → refusal ≡ 0 → extent ≡ 5
      → P (over_feed h bytes held route (on_line shut_line l s))

  abbrev pub IfWhole : (Fed Station → Type 0) → Type 0
  IfWhole P = Passed s l bytes held t route → refusal ≡ 0 → extent ≡ 0 → ByType s l bytes held t route
      → P (whole_feed h bytes held route (size_at_front (in_all s l bytes held t route))
      (dropped l (outcome s l bytes held t route)))

  pub of_feed : (P : Fed Station → Type 0) → IfRefused P → IfWaits P → IfOver P → IfWhole P → P call
  of_feed P refused waits over whole = go (feed-case s l bytes held t route)
    where
      go : FeedCase s l bytes held t route → P call
      go (Refused n e z u q) = subst P (sym q) (refused n e z u)
      go (Waits p z e q) = subst P (sym q) (waits p z e)
      go (Over p z e q) = subst P (sym q) (over p z e)
      go (Whole p z e b q) = subst P (sym q) (whole p z e b)

  module _ (P : Fed Station → Type 0) where
    pub of_refused : IfRefused P → unread call.result.answer ≡ true → P call
    of_refused refused =
        of_feed (λ f. unread f.result.answer ≡ true → P f)
        (λ n e z u _. refused n e z u)
        (λ _ _ _ u. absurd (clash u refl))
        (λ _ _ _ u. absurd (clash u refl))
        (λ _ _ _ b u. absurd (clash u (typed-read _ b.answer)))

    pub of_waits : IfWaits P → call.waits ≡ true → P call
    of_waits waits =
        of_feed (λ f. f.waits ≡ true → P f)
        (λ _ _ _ _ w. absurd (clash w refl))
        (λ p z e _. waits p z e)
        (λ _ _ _ w. absurd (clash w refl))
        (λ _ _ _ _ w. absurd (clash w refl))

    pub of_over : IfOver P → call.result.answer ≡ 5 → P call
    of_over over =
        of_feed (λ f. f.result.answer ≡ 5 → P f)
        (λ n _ _ u e. absurd (not-unread n 5 u refl e))
        (λ _ _ _ e. absurd (omega arith))
        (λ p z e _. over p z e)
        (λ _ _ _ b e. absurd (typed-other _ 5 b.answer (omega arith, inl (omega arith)) e))

    pub of_whole : IfWhole P → call.waits ≡ false → unread call.result.answer ≡ false
        → (call.result.answer ≡ 5 → ⊥) → P call
    of_whole whole =
        of_feed (λ f. f.waits ≡ false → unread f.result.answer ≡ false → (f.result.answer ≡ 5 → ⊥) → P f)
        (λ _ _ _ u _ v _. absurd (clash u v))
        (λ _ _ _ w _ _. absurd (clash refl w))
        (λ _ _ _ _ _ n. absurd (n refl))
        (λ p z e b _ _ _. whole p z e b)
