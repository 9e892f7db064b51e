-- The first bytes of a message or a payload, with zeros for those that it lacks.
use Rattle.std.specs.Prelude.{ℕ, List, replicate}
use Rattle.laws.specs.Parts.{copied}

-- 16 of a message: its number
abbrev pub number_filled : List ℕ → List ℕ
number_filled m = copied m (replicate 16 0)

-- 14 of a payload: what is stored of a pong
abbrev pub pong_filled : List ℕ → List ℕ
pong_filled payload = copied payload (replicate 14 0)
