-- How the names of an area are placed, and what tells it: the numbers of a pair, and the bytes that names lie among.
use Rattle.std.specs.Prelude.{ℕ, ◌-◌, ◌/◌, Bool, cond, ◌&&◌, List, [], ◌∷◌, leb, take, drop}
use Rattle.laws.specs.Tests.{every, all}
use Rattle.namearea.specs.declared.Span.{Span}
use Rattle.names.specs.declared.order.Order.{Order}
use Rattle.names.specs.declared.order.Order.TheVariants.{Unfit, Fit, Rising}
use Rattle.namearea.specs.Area.{text_from, span_at, spans_of, end_of}
use Rattle.namearea.specs.Good.{longest_name, listable, apart, pairwise, rising_from}

-- each of the first n names lies in the text and may be listed, and no two have a byte in common
abbrev pub placed : ℕ → List ℕ → Bool
placed n a = all (listable a) (spans_of n a) && pairwise apart (spans_of n a)

-- a pair of an area of n bytes lies in the text, and its name is as long as a name may be
unfoldable pub fits : ℕ → Span → Bool
fits n s =
    every
    (leb text_from s.offset ∷ leb (end_of s) n ∷ leb 1 s.size ∷ leb s.size longest_name ∷ [])

-- 0 where one of these pairs does not fit, else 1, and 2 where their offsets rise
unfoldable pub order_of : ℕ → List Span → ℕ
order_of n ss = cond (all (fits n) ss) (cond (rising_from 0 ss) 2 1) 0

-- the number of what the pairs tell
abbrev pub number_of : Order → ℕ
number_of Unfit = 0
number_of Fit = 1
number_of Rising = 2

-- the first of n names and the last are no farther from each other than 256 bytes a name
unfoldable pub dense : ℕ → List ℕ → Bool
dense n a = leb ((end_of (span_at a (n - 1)) - (span_at a 0).offset) / 256) n

-- the bytes from where the first of n names begins to where the last ends
abbrev pub along : ℕ → List ℕ → List ℕ
along n a = drop (span_at a 0).offset (take (end_of (span_at a (n - 1))) a)
