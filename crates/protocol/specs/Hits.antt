-- Query hits (RULES 9), over what the rules read.
use Rattle.std.specs.Prelude.{ℕ, ◌+◌, ◌-◌, Bool, true, false, cond, not, ◌&&◌, List, [], ◌∷◌, ◌++◌, eqb, ltb}
use Rattle.laws.specs.Tests.{first_of}
use Rattle.wire.specs.declared.Header.{Header}
use Rattle.wire.specs.Header.{header_in, payload_of, number_of, message, hit_type}
use Rattle.protocol.specs.declared.Line.{Line}
use Rattle.protocol.specs.declared.Lookup.{Lookup}
use Rattle.protocol.specs.Memory.{here, gone, hit_limit, age_behind}
use Rattle.protocol.specs.State.{line_only}
use Rattle.protocol.specs.Outcomes.{Step, nobody, only_to, quiet, sends, delivers, hands_up, refused_or}

-- the checks, in order: those before the query's number is looked up, and those after; a query that has had 200 hits
-- gets no more, and a hit of one asked here is delivered before the last two
abbrev pub hit_before : Header → List (Bool × ℕ)
hit_before h = (ltb h.size 27, 6) ∷ (eqb h.ttl 0, 8) ∷ []

abbrev pub hit_after : Header → Lookup → List (Bool × ℕ)
hit_after h k =
    (not k.found, 10)
    ∷ (eqb k.asker gone, 11)
    ∷ (eqb k.hits hit_limit, 21)
    ∷ (not (eqb k.asker here) && eqb h.ttl 1, 8)
    ∷ (not (eqb k.asker here) && eqb h.hops 255, 12)
    ∷ []

abbrev pub hit_rules : Header → Lookup → List (Bool × ℕ)
hit_rules h k = hit_before h ++ hit_after h k

abbrev pub hit_on : List ℕ → List ℕ
hit_on m = message (number_of m) hit_type ((header_in m).ttl - 1) ((header_in m).hops + 1) (payload_of m)

-- delivered here, or passed back to the asker's line, which may be the one it came by: its query has had one hit more
abbrev pub hit_taken : Line → Lookup → List ℕ → List ℕ → Step
hit_taken x k m route =
    delivers (eqb k.asker here)
    (sends (cond (eqb k.asker here) nobody (only_to k.asker)) (cond (eqb k.asker here) [] (hit_on m))
    (quiet 0 (record { line = x; taken = false; answered = true }) route))

-- a hit by a line with this record, of whose number the look-up found k
unfoldable pub hit_step : Line → Lookup → List ℕ → List ℕ → Step
hit_step x k m route =
    hands_up (age_behind (hit_before (header_in m)) k)
    (refused_or (first_of (hit_rules (header_in m) k)) (line_only x) route
    (hit_taken x k m route))
