-- The quick test of a name. The contracts of leaves cite this; no rule does.
use Rattle.std.specs.Prelude.{ℕ, ◌+◌, ◌-◌, ◌/◌, ◌%◌, ◌≤◌, ◌<◌, ◌≡◌, false, List, length, get_or}
use Rattle.matching.specs.declared.quick.Sample.{Sample}
use Rattle.matching.specs.Matching.{matches}

-- three bytes of a word, modulo 32
abbrev pub sample_of : List ℕ → Sample
sample_of word =
    record {
      end = length word - 1;
      first = get_or word 0 0 % 32;
      middle = get_or word ((length word - 1) / 2) 0 % 32;
      last = get_or word (length word - 1) 0 % 32;
    }

-- the bytes of a name from place p on, as many as the word has, agree with its sample
pub record Agrees (s : Sample) (name : List ℕ) (p : ℕ) : Type 0 where
  pub inside : p + s.end < length name
  pub first : get_or name p 0 % 32 ≡ s.first
  pub middle : get_or name (p + s.end / 2) 0 % 32 ≡ s.middle
  pub last : get_or name (p + s.end) 0 % 32 ≡ s.last

-- those at none of these places do
abbrev pub NoneIn : Sample → List ℕ → ℕ → ℕ → Type 0
NoneIn s name from to = (p : ℕ) → from ≤ p → p < to → Agrees s name p → ⊥

abbrev pub Nowhere : Sample → List ℕ → Type 0
Nowhere s name = (p : ℕ) → Agrees s name p → ⊥

-- then the name does not match the text
abbrev pub Telling : List ℕ → Sample → Type 0
Telling text s = (name : List ℕ) → Nowhere s name → matches text name ≡ false

-- no name matches the text
abbrev pub NoneMatches : List ℕ → Type 0
NoneMatches text = (name : List ℕ) → matches text name ≡ false
