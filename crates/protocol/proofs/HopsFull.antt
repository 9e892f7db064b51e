-- No query is answered 12: Hops of 255 are refused by 8 before.
-- Assumes nothing.
use Prim.Native.Nat.{ℕ, ◌≤◌}
use native.Mathlib.Omega.{arith}
use mathlib.Core.Path.{◌≡◌, refl, sym, ◌∙◌}
use mathlib.Core.Bool.{Bool, true, false, not}
use mathlib.Core.List.{[], ◌∷◌}
use lib.Dec.{eqb, ltb}
use borrow.Author.Tests.{le-leb, eqb-true}
use Rattle.laws.specs.Tests.{first_of}
use Rattle.laws.proofs.Refusals.{clash, or_right, not-answered}
use Rattle.wire.specs.declared.Header.{Header}
use Rattle.protocol.specs.declared.Lookup.{Lookup}
use Rattle.protocol.specs.Queries.{not_allowed, query_rules}
use Rattle.protocol.specs.HopsFull.{rules_with_row, RowNeverCounts}

-- the test of 8 holds where the row's does
before-row : (limit : ℕ) → limit ≤ 255 → (h : Header) → eqb h.hops 255 ≡ true → not_allowed limit h ≡ true
before-row limit b h e =
    let most : h.hops ≡ 255 = eqb-true h.hops 255 e in
    or_right (eqb h.ttl 0) _ (or_right (ltb 15 h.ttl) _ (le-leb limit h.hops (omega arith)))

-- where the last of four checks holds only if the second does, it decides nothing
three_decide : (a b c d : Bool) → (d ≡ true → b ≡ true)
    → first_of ((a, 6) ∷ (b, 8) ∷ (c, 9) ∷ (d, 12) ∷ []) ≡ first_of ((a, 6) ∷ (b, 8) ∷ (c, 9) ∷ [])
three_decide true b c d h = refl
three_decide false true c d h = refl
three_decide false false true d h = refl
three_decide false false false true h = absurd (clash (h refl) refl)
three_decide false false false false h = refl

module _ (limit : ℕ) (b : limit ≤ 255) (h : Header) (ended : Bool) (k : Lookup) where
  never : first_of (rules_with_row limit h ended k) ≡ first_of (query_rules limit h ended k)
  never = three_decide (not ended) (not_allowed limit h) k.found (eqb h.hops 255) (before-row limit b h)

  not12 : first_of (rules_with_row limit h ended k) ≡ 12 → ⊥
  not12 e = not-answered 12 (query_rules limit h ended k) refl refl (sym never ∙ e)

pub row-never-counts : RowNeverCounts
row-never-counts = record { never = never; not12 = not12; at256 = λ h k ttl hops new. rw (ttl, hops, new) }
