-- Results that fit, and a call over a list of four names of which two match, by computation.
use Prim.Native.Nat.{ℕ}
use mathlib.Core.Path.{◌≡◌, refl}
use mathlib.Core.Bool.{true}
use mathlib.Core.List.{List, [], ◌∷◌, ◌++◌}
use native.Mathlib.Omega.{arith}
use lib.ListN.{length, take, replicate}
use Rattle.laws.specs.Text.{codes, until_zero}
use Rattle.wire.specs.Header.{message, payload_of}
use Rattle.ascii.specs.Text.{lower, compared}
use Rattle.keywords.specs.Keywords.{keywords_of, pieces, filled, is_separator}
use Rattle.namearea.specs.Area.{count_in, span_in, spans_from}
use Rattle.namearea.specs.Good.{good_name, listable, pairwise, good_list}
use Rattle.hits.specs.declared.writing.Responder.{Responder}
use Rattle.hits.specs.Results.{HitResult, without_extension, result_bytes, results_bytes, is_whole}
use Rattle.hits.specs.Reading.{cursor_at, beginning, stays, next_of}
use Rattle.hits.specs.Writing.{head_bytes, hit_payload}
use Rattle.hits.specs.Words.{Typed}
use Rattle.matching.specs.Matching.{matches}
use Rattle.answering.specs.declared.HitsWritten.{HitsWritten}
use Rattle.answering.specs.Writing.{picked_results, fitting, most_results, results_room, chosen, hit_for}
use Rattle.answering.specs.Writing.{hits_answer, writing, writing_out}
use Rattle.answering.specs.Words.{FourBytes}

-- ---- results that fit: of 11, 15 and 11 bytes

first : HitResult
first = without_extension 0 0 (codes "a")

second : HitResult
second = without_extension 1 0 (codes "abcde")

third : HitResult
third = without_extension 2 0 (codes "b")

abbrev three : List HitResult
three = first ∷ second ∷ third ∷ []

record Fitting : Type 0 where
  -- the second does not fit, so it ends the list, though the third would fit
  ends : fitting 255 25 three ≡ first ∷ []
  -- a room that is filled exactly
  filled : fitting 255 26 three ≡ first ∷ second ∷ []
  full : fitting 255 37 three ≡ three
  -- one byte less
  less : fitting 255 36 three ≡ first ∷ second ∷ []
  -- as many as may be, and none where the first does not fit
  most : fitting 2 4069 three ≡ first ∷ second ∷ []
  none : fitting 255 10 three ≡ []

fitting-three : Fitting
unfolding first second third result_bytes fitting
fitting-three = record { ends = refl; filled = refl; full = refl; less = refl; most = refl; none = refl }

-- a result of ten bytes and its name's
named : ℕ → HitResult
named n = without_extension 0 0 (replicate n 97)

-- the room of a payload: fifteen results of 262 bytes leave 139, which the next may fill, and a short one behind one
-- that is longer is not taken; and of 300 short ones 255
record Limits : Type 0 where
  filled : length (fitting most_results results_room (replicate 15 (named 252) ++ (named 129 ∷ []))) ≡ 16
  passed : length (fitting most_results results_room (replicate 15 (named 252) ++ (named 130 ∷ named 1 ∷ []))) ≡ 15
  many : length (fitting most_results results_room (replicate 300 (named 1))) ≡ 255

limits : Limits
unfolding named result_bytes fitting
limits = record { filled = refl; passed = refl; many = refl }

-- ---- four names, "x", "a", "y" and "a b", and their sizes

names : List ℕ
names =
    4 ∷ 0 ∷ 0 ∷ 0
    ∷ 4 ∷ 16 ∷ 0 ∷ 0 ∷ 1 ∷ 0 ∷ 0 ∷ 0
    ∷ 5 ∷ 16 ∷ 0 ∷ 0 ∷ 1 ∷ 0 ∷ 0 ∷ 0
    ∷ 6 ∷ 16 ∷ 0 ∷ 0 ∷ 1 ∷ 0 ∷ 0 ∷ 0
    ∷ 7 ∷ 16 ∷ 0 ∷ 0 ∷ 3 ∷ 0 ∷ 0 ∷ 0
    ∷ (replicate 4064 0 ++ codes "xaya b")

sizes : List ℕ
sizes = 10 ∷ 20 ∷ 30 ∷ 40 ∷ []

from : Responder
from =
    record {
      port = 6346;
      address = 10 ∷ 0 ∷ 0 ∷ 1 ∷ [];
      speed = 1000;
      mark = replicate 16 7;
    }

-- a message of this type with this text, TTL 3 and Hops 4, and a query
typed : ℕ → List ℕ → List ℕ
typed kind text = message (replicate 16 9) kind 3 4 (0 ∷ 0 ∷ (text ++ (0 ∷ [])))

query : List ℕ → List ℕ
query text = typed 0x80 text

-- the second and the fourth have the keyword; "b" is of the fourth only; no text without a keyword matches
record Choices : Type 0 where
  two : chosen (codes "a") names sizes ≡ without_extension 1 20 (codes "a") ∷ without_extension 3 40 (codes "a b") ∷ []
  capital : chosen (codes "B, A") names sizes ≡ without_extension 3 40 (codes "a b") ∷ []
  neither : chosen (codes "a c") names sizes ≡ []
  blank : chosen (codes " - ") names sizes ≡ []

choices : Choices
unfolding names sizes lower compared is_separator pieces filled keywords_of matches count_in span_in result_bytes
    picked_results fitting chosen
choices = record { two = refl; capital = refl; neither = refl; blank = refl }

-- ---- the call

told : ℕ → ℕ → ℕ → HitsWritten
told answer results written = record { answer = answer; results = results; written = written }

record Calls : Type 0 where
  written : writing 7 (query (codes "a")) names sizes from 4119 ≡ told 0 2 74
  absent : writing 7 (query (codes "c")) names sizes from 4119 ≡ told 10 0 0
  -- 8 comes before 10, 2 before 8, and a size for each name is asked, of those too that do not match
  far : writing 4 (query (codes "c")) names sizes from 4119 ≡ told 8 0 0
  small : writing 4 (query (codes "c")) names sizes from 4118 ≡ told 2 0 0
  sizes-short : writing 7 (query (codes "x")) names (take 3 sizes) from 4119 ≡ told 2 0 0
  -- a ping and a hit are no queries
  ping : writing 7 (typed 0x00 (codes "a")) names sizes from 4119 ≡ told 7 0 0
  hit : writing 7 (typed 0x81 (codes "a")) names sizes from 4119 ≡ told 7 0 0

calls : Calls
unfolding names sizes from typed query told message lower compared is_separator pieces filled keywords_of matches count_in
    span_in spans_from good_name listable pairwise good_list until_zero result_bytes results_bytes head_bytes hit_payload
    picked_results fitting chosen hit_for hits_answer writing
calls = record { written = refl; absent = refl; far = refl; small = refl; sizes-short = refl; ping = refl; hit = refl }

-- the output after the first of these calls
output : List ℕ
output = writing_out 7 (query (codes "a")) names sizes from (replicate 4119 255)

-- the bytes: the query's number, 0x81, TTL 5, Hops 0, 51 bytes of payload; two results, port, address and speed; the
-- results; the mark; and behind them the output as it was
bytes : take 76 output
    ≡ replicate 16 9
    ++ (0x81 ∷ 5 ∷ 0 ∷ 51 ∷ 0 ∷ 0 ∷ 0
    ∷ 2 ∷ 0xCA ∷ 0x18 ∷ 10 ∷ 0 ∷ 0 ∷ 1 ∷ 0xE8 ∷ 3 ∷ 0 ∷ 0
    ∷ 1 ∷ 0 ∷ 0 ∷ 0 ∷ 20 ∷ 0 ∷ 0 ∷ 0 ∷ 0x61 ∷ 0 ∷ 0
    ∷ 3 ∷ 0 ∷ 0 ∷ 0 ∷ 40 ∷ 0 ∷ 0 ∷ 0 ∷ 0x61 ∷ 0x20 ∷ 0x62 ∷ 0 ∷ 0
    ∷ (replicate 16 7 ++ (255 ∷ 255 ∷ [])))
unfolding names sizes from typed query output message lower compared is_separator pieces filled keywords_of matches count_in
    span_in spans_from good_name listable pairwise good_list until_zero result_bytes results_bytes head_bytes hit_payload
    picked_results fitting chosen hit_for hits_answer writing_out
bytes = refl

-- ---- the same read

payload : List ℕ
payload = payload_of (take 74 output)

record Reading : Type 0 where
  begins : (beginning payload).cursor ≡ cursor_at 11 2
  first-result : next_of (cursor_at 11 2) payload
      ≡ record {
        answer = 0;
        found = true;
        result = record { index = 1; size = 20; nameat = 19; namelen = 1; extat = 21; extlen = 0 };
        cursor = cursor_at 22 1;
      }
  second-result : next_of (cursor_at 22 1) payload
      ≡ record {
        answer = 0;
        found = true;
        result = record { index = 3; size = 40; nameat = 30; namelen = 3; extat = 34; extlen = 0 };
        cursor = cursor_at 35 0;
      }
  ended : next_of (cursor_at 35 0) payload ≡ stays 0 (cursor_at 35 0)

reading : Reading
unfolding names sizes from typed query output payload message lower compared is_separator pieces filled keywords_of matches
    count_in span_in spans_from good_name listable pairwise good_list until_zero result_bytes results_bytes head_bytes
    hit_payload picked_results fitting chosen hit_for hits_answer writing_out is_whole beginning next_of
reading = record { begins = refl; first-result = refl; second-result = refl; ended = refl }

-- what is asked of who answers, and of the sizes, can be met
asked : Typed from × FourBytes sizes
unfolding from sizes
asked = (record { port = omega arith; speed = omega arith; address = refl; mark = refl }, refl)
