-- What is told of the texts of an area: where the last ends, how many bytes they have together, which is the next
-- behind a place, and how they lie once the gaps between them are closed.
use Rattle.std.specs.Prelude.{ℕ, ◌+◌, ◌≤◌, ◌<◌, ◌≡◌, Bool, true, List, length}
use Rattle.namearea.specs.declared.Span.{Span}
use Rattle.namearea.specs.Area.{most_names, text_from, count_in, span_at, end_of, name_at, names_in, total}
use Rattle.namearea.specs.Good.{good_list}
use Rattle.namelist.specs.Moves.{PairPut, TextPut}

-- no text ends behind r, which is a place of the text or the area's end
pub record Ends (a : List ℕ) (r : ℕ) : Type 0 where
  pub low : text_from ≤ r
  pub high : r ≤ length a
  pub above : (k : ℕ) → k < count_in a → end_of (span_at a k) ≤ r

-- the names have r bytes together
pub record Sum (a : List ℕ) (r : ℕ) : Type 0 where
  pub all : r ≡ total (names_in a)
  pub most : r ≤ 130560

-- pair r has the least offset that is not below `from`; r is the count or more where every offset is below
pub record Least (a : List ℕ) (from r : ℕ) : Type 0 where
  pub some : r < count_in a → from ≤ (span_at a r).offset
  pub least : r < count_in a → (j : ℕ) → j < count_in a → from ≤ (span_at a j).offset
      → (span_at a r).offset ≤ (span_at a j).offset
  pub none : count_in a ≤ r → (j : ℕ) → j < count_in a → (span_at a j).offset < from

-- the pairs before i have offsets below `from`, the others have not, and of those each text ends before the next
-- pair's text
pub record Rest (a : List ℕ) (i from : ℕ) : Type 0 where
  pub gone : (j : ℕ) → j < i → j < count_in a → (span_at a j).offset < from
  pub still : (j : ℕ) → i ≤ j → j < count_in a → from ≤ (span_at a j).offset
  pub order : (j k : ℕ) → i ≤ j → j < k → k < count_in a → end_of (span_at a j) ≤ (span_at a k).offset

-- the next text to move: the one of pair i where offsets rise
pub record Next (a : List ℕ) (rising : Bool) (i from r : ℕ) : Type 0 where
  pub which : Least a from r
  pub same : rising ≡ true → r ≡ i

-- the text of pair k can be moved down to `to`
pub record Movable (a : List ℕ) (to k : ℕ) : Type 0 where
  pub place : k < most_names
  pub low : text_from ≤ to
  pub down : to ≤ (span_at a k).offset
  pub size : (span_at a k).size ≤ 255
  pub fits : end_of (span_at a k) ≤ length a

-- it was moved, and s is its pair as it was: the text was written, and then the pair
pub record MovedDown (a : List ℕ) (to k : ℕ) (s : Span) (b : List ℕ) : Type 0 where
  pub was : s ≡ span_at a k
  pub between : List ℕ
  pub text : TextPut a to (name_at a k) between
  pub pair : PairPut between k (record { offset = to; size = (span_at a k).size }) b

-- the gaps are closed: the names are as they were, and their texts fill what is before r
pub record Closed (a : List ℕ) (r : ℕ) (b : List ℕ) : Type 0 where
  pub long : length b ≡ length a
  pub good : good_list b ≡ true
  pub listed : names_in b ≡ names_in a
  pub count : count_in b ≡ count_in a
  pub all : r ≡ text_from + total (names_in a)
  pub above : (k : ℕ) → k < count_in b → end_of (span_at b k) ≤ r
