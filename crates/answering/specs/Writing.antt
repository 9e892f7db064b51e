-- The hits that a station writes for a query from its own names (RULES 25.6 to 25.11): which names are chosen, what
-- the call answers, and what it leaves of the output. Query, names and sizes are only read.
use Rattle.std.specs.Prelude.{ℕ, zero, suc, ◌+◌, ◌-◌, Bool, cond, not, ◌||◌, List, [], ◌∷◌, ◌++◌, eqb, leb, ltb, length, get_or}
use Rattle.laws.specs.Tests.{first_of, any}
use Rattle.laws.specs.Numbers.{counting}
use Rattle.laws.specs.Parts.{over}
use Rattle.wire.specs.Header.{
  largest_payload,
  largest_message,
  query_type,
  hit_type,
  header_in,
  number_of,
  kind_of,
  hops_of,
  size_of,
  payload_of,
  message,
}
use Rattle.namearea.specs.Area.{count_in, name_at, names_in}
use Rattle.namearea.specs.Calls.{list_rules}
use Rattle.hits.specs.declared.writing.Responder.{Responder}
use Rattle.hits.specs.Results.{HitResult, without_extension, result_bytes}
use Rattle.hits.specs.Reading.{head_size, mark_size}
use Rattle.hits.specs.Writing.{hit_payload}
use Rattle.matching.specs.Matching.{matches}
use Rattle.protocol.specs.Queries.{text_in, has_text, query_before}
use Rattle.protocol.specs.Calls.{extent_rules}
use Rattle.answering.specs.declared.HitsWritten.{HitsWritten}

-- ---- the names that are chosen

-- the result for the name at a place of the list: the place is its index, and its size is the one lent for the place
abbrev pub result_at : List ℕ → List ℕ → ℕ → HitResult
result_at a sizes i = without_extension i (get_or sizes i 0) (name_at a i)

-- those of some places that are picked, as results
unfoldable pub picked_results : (ℕ → Bool) → (ℕ → HitResult) → List ℕ → List HitResult
picked_results picked result [] = []
picked_results picked result (i ∷ is) =
    cond (picked i) (result i ∷ picked_results picked result is) (picked_results picked result is)

-- the names that match a text, in the order of the list
abbrev pub candidates : List ℕ → List ℕ → List ℕ → List HitResult
candidates text a sizes =
    picked_results (λ i. matches text (name_at a i)) (result_at a sizes) (counting (count_in a) 0)

-- results from the front, n at most, while they fit so many bytes: the first that does not fit ends them
unfoldable pub fitting : ℕ → ℕ → List HitResult → List HitResult
fitting zero room rs = []
fitting (suc n) room [] = []
fitting (suc n) room (r ∷ rs) =
    cond (leb (length (result_bytes r)) room) (r ∷ fitting n (room - length (result_bytes r)) rs) []

-- how many results a hit may have, and how many bytes they may have together
abbrev pub most_results : ℕ
most_results = 255

abbrev pub results_room : ℕ
results_room = largest_payload - (head_size + mark_size)

unfoldable pub chosen : List ℕ → List ℕ → List ℕ → List HitResult
chosen text a sizes = fitting most_results results_room (candidates text a sizes)

-- the text of a query
abbrev pub asked_text : List ℕ → List ℕ
asked_text q = text_in (payload_of q)

-- the hit: the query's number, TTL one more than its Hops, Hops 0
abbrev pub hit_ttl : List ℕ → ℕ
hit_ttl q = hops_of q + 1

unfoldable pub hit_for : List ℕ → Responder → List HitResult → List ℕ
hit_for q from rs = message (number_of q) hit_type (hit_ttl q) 0 (hit_payload from rs)

-- ---- the refusals

-- those of the query itself: 4 and 5 by its extent, 7 for any other type, and a query's own 6 and 8
abbrev pub asked_rules : ℕ → List ℕ → List (Bool × ℕ)
asked_rules limit q =
    extent_rules (length q) (size_of q)
    ++ ((not (eqb (kind_of q) query_type), 7) ∷ query_before limit (header_in q) (has_text (payload_of q)))

-- before them those of a list of names, and 2 for fewer sizes than it has names, or an output with no room for the
-- largest message
abbrev pub early_rules : ℕ → List ℕ → List ℕ → ℕ → ℕ → List (Bool × ℕ)
early_rules limit q a sizes out =
    list_rules a ++ ((ltb sizes (count_in a) || ltb out largest_message, 2) ∷ asked_rules limit q)

-- and 10 at last where no name matches
abbrev pub hits_rules : ℕ → List ℕ → List ℕ → ℕ → ℕ → List (Bool × ℕ)
hits_rules limit q a sizes out =
    early_rules limit q a sizes out ++ ((not (any (matches (asked_text q)) (names_in a)), 10) ∷ [])

unfoldable pub hits_answer : ℕ → List ℕ → List ℕ → ℕ → ℕ → ℕ
hits_answer limit q a sizes out = first_of (hits_rules limit q a sizes out)

-- ---- the call

-- what the caller is told: the answer, and how many results and bytes were written, 0 where it is refused
abbrev pub told_by : ℕ → ℕ → ℕ → HitsWritten
told_by answer results written =
    record { answer = answer; results = cond (eqb answer 0) results 0; written = cond (eqb answer 0) written 0 }

unfoldable pub writing : ℕ → List ℕ → List ℕ → List ℕ → Responder → ℕ → HitsWritten
writing limit q a sizes from out =
    told_by (hits_answer limit q a (length sizes) out) (length (chosen (asked_text q) a sizes))
    (length (hit_for q from (chosen (asked_text q) a sizes)))

-- the output after it: the hit at its front, the rest as it was; all as it was where it is refused
unfoldable pub writing_out : ℕ → List ℕ → List ℕ → List ℕ → Responder → List ℕ → List ℕ
writing_out limit q a sizes from out =
    cond (eqb (hits_answer limit q a (length sizes) (length out)) 0)
    (over 0 (hit_for q from (chosen (asked_text q) a sizes)) out)
    out
