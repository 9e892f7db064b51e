-- Queries, arriving and own (RULES 7, 8), over what the rules read. `limit` is the usual life of a query.
use Rattle.std.specs.Prelude.{ℕ, ◌+◌, ◌-◌, min, Bool, true, false, not, ◌&&◌, ◌||◌, List, [], ◌∷◌, ◌++◌, eqb, leb, ltb, length, drop}
use Rattle.laws.specs.Tests.{first_of, any}
use Rattle.wire.specs.declared.Header.{Header}
use Rattle.wire.specs.Header.{header_in, payload_of, number_of, message, query_type}
use Rattle.keywords.specs.Keywords.{keywords_of}
use Rattle.tables.specs.Tables.{Held}
use Rattle.tables.specs.Admission.{withholds}
-- the bytes before the first zero byte
unfoldable pub use Rattle.laws.specs.Text.{until_zero}
use Rattle.protocol.specs.declared.Line.{Line}
use Rattle.protocol.specs.declared.Lookup.{Lookup}
use Rattle.protocol.specs.Memory.{age_behind}
use Rattle.protocol.specs.Lines.{is_other, each_line, line_in, held_for}
use Rattle.protocol.specs.State.{line_only}
use Rattle.protocol.specs.Outcomes.{Step, quiet, sends, searches, hands_up, refused_or, written_for}

-- the usual life
abbrev pub usual_limit : ℕ
usual_limit = 7

-- the Infinity that goes with it in tables of this station's own: one more than a query can travel
abbrev pub infinity_written : ℕ → ℕ
infinity_written limit = limit + 1

-- the payload: speed 2 bytes, text, a zero byte
abbrev pub text_in : List ℕ → List ℕ
text_in p = until_zero (drop 2 p)

abbrev pub has_text : List ℕ → Bool
has_text p = any (eqb 0) (drop 2 p)

-- the life of a query (RULES 7.2)
abbrev pub life_of : ℕ → Header → ℕ
life_of limit h = min h.ttl (limit - h.hops)

-- a TTL or Hops that a query may not have
abbrev pub not_allowed : ℕ → Header → Bool
not_allowed limit h = eqb h.ttl 0 || (ltb 15 h.ttl || leb limit h.hops)

-- the checks, in order: those before its number is looked up, given whether a zero byte ends the text, and the one
-- after, which an own query has too
abbrev pub query_before : ℕ → Header → Bool → List (Bool × ℕ)
query_before limit h ended = (not ended, 6) ∷ (not_allowed limit h, 8) ∷ []

abbrev pub query_after : Lookup → List (Bool × ℕ)
query_after k = (k.found, 9) ∷ []

abbrev pub query_rules : ℕ → Header → Bool → Lookup → List (Bool × ℕ)
query_rules limit h ended k = query_before limit h ended ++ query_after k

-- a line of which `live` and `t` are told lets a query pass that is to go with this TTL
abbrev pub passes : Bool → Held → List ℕ → ℕ → Bool
passes live t text ttl = live && not (withholds t (keywords_of text) ttl)

-- it goes on to line k: another than the one it came by, life 2 or more, open, and not withheld at the TTL to be sent
abbrev pub goes_on : ℕ → ℕ → ℕ → Bool → Held → List ℕ → Bool
goes_on life l k live t text = is_other l k && (leb 2 life && passes live t text (life - 1))

-- the lines it goes on to, given which are open, and their tables
abbrev pub query_to : ℕ → ℕ → (ℕ → Bool) → (ℕ → Held) → List ℕ → List Bool
query_to life l live tables text = each_line (λ k. goes_on life l k (live k) (tables k) text)

abbrev pub query_on : ℕ → List ℕ → List ℕ
query_on limit m = message (number_of m) query_type (life_of limit (header_in m) - 1) ((header_in m).hops + 1) (payload_of m)

-- the lines that an arriving query goes on to
abbrev pub query_lines : ℕ → ℕ → List Line → ℕ → List ℕ → List ℕ → List Bool
query_lines limit room lines l m route =
    query_to (life_of limit (header_in m)) l (λ k. (line_in lines k).live) (λ k. held_for room lines k route)
    (text_in (payload_of m))

-- a taken query is remembered with its line and offered to the local search; the text begins after the header and the
-- speed
abbrev pub query_taken : ℕ → ℕ → List Line → ℕ → List ℕ → List ℕ → Step
query_taken limit room lines l m route =
    searches 25 (length (text_in (payload_of m)))
    (sends (query_lines limit room lines l m route)
    (written_for (query_lines limit room lines l m route) (query_on limit m))
    (quiet 0 (record { line = line_in lines l; taken = true; answered = false }) route))

-- an arriving query by line l, of whose number the look-up found k
unfoldable pub query_step : ℕ → ℕ → List Line → ℕ → Lookup → List ℕ → List ℕ → Step
query_step limit room lines l k m route =
    hands_up (age_behind (query_before limit (header_in m) (has_text (payload_of m))) k)
    (refused_or (first_of (query_rules limit (header_in m) (has_text (payload_of m)) k))
    (line_only (line_in lines l)) route
    (query_taken limit room lines l m route))

-- own queries: TTL the limit, Hops 0, speed 0, to every line that is open and lets it pass (RULES 8)
abbrev pub own_payload : List ℕ → List ℕ
own_payload text = 0 ∷ 0 ∷ (text ++ (0 ∷ []))

abbrev pub own_bytes : ℕ → List ℕ → List ℕ → List ℕ
own_bytes limit number text = message number query_type limit 0 (own_payload text)

abbrev pub own_to : ℕ → (ℕ → Bool) → (ℕ → Held) → List ℕ → List Bool
own_to limit live tables text = each_line (λ k. passes (live k) (tables k) text limit)

abbrev pub own_lines : ℕ → ℕ → List Line → List ℕ → List ℕ → List Bool
own_lines limit room lines text route = own_to limit (λ k. (line_in lines k).live) (λ k. held_for room lines k route) text
