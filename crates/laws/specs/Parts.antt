-- A list written over another.
use Rattle.std.specs.Prelude.{ℕ, ◌+◌, ◌≡◌, List, ◌++◌, length, take, drop}

-- `area` with `bs` written over it from place `from` on
abbrev pub over : ℕ → List ℕ → List ℕ → List ℕ
over from bs area = take from area ++ (bs ++ drop (from + length bs) area)

-- `part` with as many of `bs` at its front as it has room for
unfoldable pub copied : List ℕ → List ℕ → List ℕ
copied bs part = over 0 (take (length part) bs) part

-- what a function that writes gives: `text` stands over `area` from place `at` on, and the next place is past it
pub record Put (at : ℕ) (text area after : List ℕ) (next : ℕ) : Type 0 where
  pub written : after ≡ over at text area
  pub moved : next ≡ at + length text
