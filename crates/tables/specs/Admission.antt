-- Whether a table withholds a query (RULES 7.7, 7.8, and demand 3): the rule, and what it comes to in words.
use Rattle.std.specs.Prelude.{ℕ, ◌^◌, ◌≤◌, ◌<◌, ◌≡◌, Bool, true, false, ◌&&◌, ◌||◌, ◌↔◌, ◌⊎◌, eqb, ltb, get_or}
use mathlib.Core.List.{List, Memᴰ}
use Rattle.laws.specs.Tests.{any}
use Rattle.keywords.specs.Hash.{hash_of, place_of, scaled}
use Rattle.tables.specs.Tables.{Held, settled}

-- RULES 7.7, 7.8: the entry is Infinity, which means none, or is above the TTL that the query would be sent with
abbrev pub far : ℕ → ℕ → ℕ → Bool
far infinity ttl e = eqb e infinity || ltb ttl e

-- the entry of a keyword with this hash
abbrev pub entry_of : Held → ℕ → ℕ
entry_of h hash = get_or h.entries (scaled h.table.length hash) 0

-- a table stops each query that has a keyword with this hash: it is settled, and the keyword's entry is far
abbrev pub stops : Held → ℕ → ℕ → Bool
stops h ttl hash = eqb h.table.mark settled && far h.table.infinity ttl (entry_of h hash)

-- a table withholds a query if some keyword stops it
unfoldable pub withholds : Held → List (List ℕ) → ℕ → Bool
withholds h keywords ttl = any (λ k. stops h ttl (hash_of k)) keywords

-- that is: exactly if there is a keyword among these that does
abbrev pub SomeKeywordStops : Type 0
SomeKeywordStops = (h : Held) (keywords : List (List ℕ)) (ttl : ℕ)
    → (withholds h keywords ttl ≡ true) ↔ ((k : List ℕ) × Memᴰ k keywords × (stops h ttl (hash_of k) ≡ true))

-- ---- in words, without the tests above

-- the table is settled, and some keyword's entry, as `entry` gives it, is Infinity or exceeds the TTL to be sent
abbrev pub Withheld : Held → (List ℕ → ℕ) → List (List ℕ) → ℕ → Type 0
Withheld h entry keywords ttl =
    (h.table.mark ≡ settled)
    × ((k : List ℕ) × Memᴰ k keywords × ((entry k ≡ h.table.infinity) ⊎ (ttl < entry k)))

-- this is exactly when a table of 2 to the power b entries withholds, a keyword's entry being the one at its place,
-- which is the top b bits of its hash
abbrev pub WithheldExactly : Type 0
WithheldExactly = (h : Held) (b : ℕ) → b ≤ 32 → h.table.length ≡ 2 ^ b → (keywords : List (List ℕ)) (ttl : ℕ)
    → (withholds h keywords ttl ≡ true) ↔ Withheld h (λ k. get_or h.entries (place_of b k) 0) keywords ttl

-- a table that is not settled withholds nothing, whatever its length and its entries
abbrev pub UnsettledWithholdsNone : Type 0
UnsettledWithholdsNone = (h : Held) (keywords : List (List ℕ)) (ttl : ℕ)
    → (h.table.mark ≡ settled → ⊥) → withholds h keywords ttl ≡ false
