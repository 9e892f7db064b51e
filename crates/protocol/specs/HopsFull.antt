-- 12, Hops that are 255 and would have to rise, is no answer to a query (RULES 7.1): one with such Hops is refused
-- before, by 6 or by 8. So the checks of a query have no row for it; put back behind the others, it is never the first
-- that holds.
use Rattle.std.specs.Prelude.{ℕ, ◌≤◌, ◌≡◌, Bool, true, false, List, [], ◌∷◌, ◌++◌, eqb}
use Rattle.laws.specs.Tests.{first_of}
use Rattle.wire.specs.declared.Header.{Header}
use Rattle.protocol.specs.declared.Lookup.{Lookup}
use Rattle.protocol.specs.Queries.{query_rules}

-- the row
abbrev pub row_of12 : Header → Bool × ℕ
row_of12 h = (eqb h.hops 255, 12)

-- the checks of a query, and the row behind them
abbrev pub rules_with_row : ℕ → Header → Bool → Lookup → List (Bool × ℕ)
rules_with_row limit h ended k = query_rules limit h ended k ++ (row_of12 h ∷ [])

-- whatever the header, the text and the look-up, at every limit that a byte holds: the first check that holds is the
-- same without the row, and is not 12. With a limit of 256 the row would count
pub record RowNeverCounts : Type 0 where
  pub never : (limit : ℕ) → limit ≤ 255 → (h : Header) (ended : Bool) (k : Lookup)
      → first_of (rules_with_row limit h ended k) ≡ first_of (query_rules limit h ended k)
  pub not12 : (limit : ℕ) → limit ≤ 255 → (h : Header) (ended : Bool) (k : Lookup)
      → first_of (rules_with_row limit h ended k) ≡ 12
      → ⊥
  pub at256 : (h : Header) (k : Lookup)
      → h.ttl ≡ 1
      → h.hops ≡ 255
      → k.found ≡ false
      → first_of (rules_with_row 256 h true k) ≡ 12
