-- The three groups that the station writes (RULES 15.13, 15.14).
use Rattle.std.specs.Prelude.{ℕ, Result, Ok, Err, cond, not, List, [], ◌∷◌, ◌++◌, eqb, ltb, length}
use Rattle.laws.specs.Tests.{first_of}
use Rattle.laws.specs.Text.{codes}
use Rattle.laws.specs.Parts.{over}
use Rattle.xtry.specs.Writing.{pairs_text, pairs_in, can_write, led}
use Rattle.xtry.specs.Pairs.{space}
use Rattle.xtry.specs.declared.Pair.{Pair}
use Rattle.xtry.specs.declared.Pairs.{Pairs}
use Rattle.answer.specs.declared.Refusal.{Refusal}
use Rattle.answer.specs.Numbers.{number_of}
use Rattle.handshake.specs.declared.Wrote.{Wrote}

abbrev pub crlf : List ℕ
crlf = codes "\r\n"

abbrev pub greeting_line : List ℕ
greeting_line = codes "GNUTELLA CONNECT/0.6"

abbrev pub ok_line : List ℕ
ok_line = codes "GNUTELLA/0.6 200 OK"

abbrev pub busy_line : List ℕ
busy_line = codes "GNUTELLA/0.6 503 Busy"

-- the name of the field, and what stands in front of its value
abbrev pub try_name : List ℕ
try_name = codes "X-Try"

abbrev pub try_front : List ℕ
try_front = try_name ++ codes ": "

unfoldable pub greeting_bytes : List ℕ
greeting_bytes = greeting_line ++ (crlf ++ crlf)

unfoldable pub ok_bytes : List ℕ
ok_bytes = ok_line ++ (crlf ++ crlf)

-- one line for the pairs, and none where there is no pair
unfoldable pub try_line : List Pair → List ℕ
try_line [] = []
try_line (p ∷ ps) = try_front ++ (pairs_text (p ∷ ps) ++ crlf)

unfoldable pub busy_bytes : List Pair → List ℕ
busy_bytes ps = busy_line ++ (crlf ++ (try_line ps ++ crlf))

-- the reply that names pairs, as it is written: the first behind a space, the others behind a comma
unfoldable pub named_bytes : List Pair → List ℕ
named_bytes ps = (busy_line ++ (crlf ++ codes "X-Try:")) ++ (led space ps ++ (crlf ++ crlf))

-- ---- what a writer answers

-- a text written to an area of so many bytes: 2 where it is short
unfoldable pub text_answer : ℕ → List ℕ → ℕ
text_answer room text = first_of ((ltb room (length text), 2) ∷ [])

-- RULES 15.14: 6 for more than 32 pairs or a port 0, then 2 for a short area
unfoldable pub busy_answer : ℕ → Pairs → ℕ
busy_answer room pairs =
    first_of ((not (can_write pairs), 6) ∷ (ltb room (length (busy_bytes (pairs_in pairs))), 2) ∷ [])

-- the result, by the answer's number: a refusal writes nothing
unfoldable pub wrote_of : ℕ → List ℕ → Wrote
wrote_of answer text = record { answer = answer; written = cond (eqb answer 0) (length text) 0 }

-- what was written, as a result
abbrev pub wrote_by : Result ℕ Refusal → Wrote
wrote_by (Ok n) = record { answer = 0; written = n }
wrote_by (Err refusal) = record { answer = number_of refusal; written = 0 }

-- the area afterwards: the text at its front, and all of it as it was after a refusal
unfoldable pub area_of : ℕ → List ℕ → List ℕ → List ℕ
area_of answer text area = cond (eqb answer 0) (over 0 text area) area
