-- What the parts of an add and a remove promise one another: an area after one write, by what can be read of it.
use Rattle.std.specs.Prelude.{ℕ, ◌+◌, ◌-◌, ◌≤◌, ◌<◌, ◌≡◌, true, false, ◌⊎◌, List, length, take, drop}
use Rattle.namearea.specs.declared.Span.{Span}
use Rattle.namearea.specs.Area.{most_names, text_from, count_in, span_at, end_of, name_of, names_in, total}
use Rattle.namearea.specs.Good.{good_name, good_list}
use Rattle.namearea.specs.Calls.{is_listed}

-- what every change asks of the area: it has room for the pairs, and is good
pub record GoodArea (a : List ℕ) : Type 0 where
  pub long : text_from ≤ length a
  pub good : good_list a ≡ true

-- the count was written
pub record CountPut (a : List ℕ) (n : ℕ) (b : List ℕ) : Type 0 where
  pub long : length b ≡ length a
  pub count : count_in b ≡ n
  pub pairs : (k : ℕ) → k < most_names → span_at b k ≡ span_at a k
  pub text : drop text_from b ≡ drop text_from a

-- pair i was written
pub record PairPut (a : List ℕ) (i : ℕ) (s : Span) (b : List ℕ) : Type 0 where
  pub long : length b ≡ length a
  pub count : count_in b ≡ count_in a
  pub here : span_at b i ≡ s
  pub others : (k : ℕ) → k < most_names → (k ≡ i → ⊥) → span_at b k ≡ span_at a k
  pub text : drop text_from b ≡ drop text_from a

-- a text was written at a place of the text
pub record TextPut (a : List ℕ) (at : ℕ) (x b : List ℕ) : Type 0 where
  pub long : length b ≡ length a
  pub count : count_in b ≡ count_in a
  pub pairs : (k : ℕ) → k < most_names → span_at b k ≡ span_at a k
  pub here : take (length x) (drop at b) ≡ x
  pub others : (s : Span) → (end_of s ≤ at) ⊎ (at + length x ≤ s.offset) → name_of b s ≡ name_of a s

-- room for n bytes more at `at`: the names are as they were, and all texts end before it
pub record Placed (a : List ℕ) (n at : ℕ) (b : List ℕ) : Type 0 where
  pub long : length b ≡ length a
  pub good : good_list b ≡ true
  pub listed : names_in b ≡ names_in a
  pub count : count_in b ≡ count_in a
  pub low : text_from ≤ at
  pub fits : at + n ≤ length b
  pub small : at < 4294967296
  pub above : (k : ℕ) → k < count_in b → end_of (span_at b k) ≤ at

-- what an insert asks: the area is good and counts so many names, and the name may be listed, is new and has room
pub record Insertable (a : List ℕ) (count : ℕ) (x : List ℕ) : Type 0 where
  pub long : text_from ≤ length a
  pub good : good_list a ≡ true
  pub counted : count ≡ count_in a
  pub few : count < most_names
  pub named : good_name x ≡ true
  pub absent : is_listed x (names_in a) ≡ false
  pub room : total (names_in a) + length x ≤ length a - text_from
