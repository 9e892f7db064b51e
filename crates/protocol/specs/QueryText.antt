-- The text of a query (RULES 6.6) from outside: behind two bytes of speed, up to the first zero byte, whatever stands
-- behind that. One way only to read a payload so, hence this fixes the text.
use Rattle.std.specs.Prelude.{ℕ, ◌≡◌, true, false, ◌↔◌, List, ◌∷◌, ◌++◌, eqb}
use Rattle.laws.specs.Tests.{any}
use Rattle.protocol.specs.Queries.{text_in, has_text}

-- a payload that holds this text
pub record Holds (text p : List ℕ) : Type 0 where
  pub first : ℕ
  pub second : ℕ
  pub rest : List ℕ
  pub is : p ≡ first ∷ second ∷ (text ++ (0 ∷ rest))
  pub no_zero : any (eqb 0) text ≡ false

-- a payload that holds a text has that one, and one that holds none is refused
abbrev pub TextExactly : Type 0
TextExactly = (p : List ℕ) → ((text : List ℕ) → Holds text p → text_in p ≡ text)
    × ((has_text p ≡ true) ↔ Holds (text_in p) p)
