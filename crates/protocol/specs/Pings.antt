-- Pings and pongs (RULES 10), over what the rules read.
use Rattle.std.specs.Prelude.{ℕ, zero, suc, ◌+◌, min, max, Bool, cond, not, ◌&&◌, ◌||◌, List, [], ◌∷◌, ◌++◌, map, eqb, leb, ltb, length, take}
use Rattle.laws.specs.Tests.{first_of}
use Rattle.laws.specs.Bytes.{little_bytes}
use Rattle.wire.specs.declared.Header.{Header}
use Rattle.wire.specs.Header.{header_in, payload_of, number_of, message, pong_type}
use Rattle.protocol.specs.declared.Pong.{Pong}
use Rattle.protocol.specs.declared.Line.{Line}
use Rattle.protocol.specs.declared.Own.{Own}
use Rattle.protocol.specs.Lines.{line_numbers, is_other, line_in, pinged_at, with_pong, pong_hops, stored_pongs, elapsed}
use Rattle.protocol.specs.State.{line_only}
use Rattle.protocol.specs.Outcomes.{Terms, Step, quiet, sends, nobody, only_to, refused_or}

-- TTL 1 with Hops 0 or 1 asks this station alone
abbrev pub is_probe : Header → Bool
is_probe h = eqb h.ttl 1 && leb h.hops 1

-- too soon after the last accepted ping of the line
abbrev pub too_soon : Bool → ℕ → ℕ → Bool
too_soon pinged time clock = pinged && ltb (elapsed clock time) 1000

-- given whether a ping of the line was accepted, and when
abbrev pub ping_rules : Bool → ℕ → ℕ → Header → List (Bool × ℕ)
ping_rules pinged time clock h = (eqb h.ttl 0, 8) ∷ (not (is_probe h) && too_soon pinged time clock, 13) ∷ []

-- the pong at this rank of a newest-first list, if there is one
abbrev pub ranked : ℕ → List Pong → List Pong
ranked r [] = []
ranked zero (p ∷ ps) = p ∷ []
ranked (suc r) (p ∷ ps) = ranked r ps

module _ {A : Type 0} where
  abbrev pub keep_if : (A → Bool) → List A → List A
  keep_if f [] = []
  keep_if f (x ∷ xs) = cond (f x) (x ∷ keep_if f xs) (keep_if f xs)

  abbrev pub flat : List (List A) → List A
  flat [] = []
  flat (x ∷ xs) = x ++ flat xs

-- RULES 10.5: by rank, the newest first, and in each rank by line, the ping's own left out
unfoldable pub walk : List Line → ℕ → List Pong
walk lines l =
    flat
    (map (λ r. flat (map (λ k. ranked r (stored_pongs (line_in lines k))) (keep_if (is_other l) line_numbers)))
    (0 ∷ 1 ∷ 2 ∷ 3 ∷ 4 ∷ 5 ∷ 6 ∷ 7 ∷ 8 ∷ 9 ∷ []))

-- an age of 15,000 ms or more is too old
abbrev pub is_fresh : ℕ → Pong → Bool
is_fresh clock p = ltb (elapsed clock p.clock) 15000

-- up to ten stored pongs
abbrev pub stored_sent : List Line → ℕ → ℕ → List Pong
stored_sent lines l clock = take 10 (keep_if (is_fresh clock) (walk lines l))

-- RULES 10.6: the ping's number; as TTL the ping's Hops, or 1 where those are 0; Hops as told
abbrev pub pong_bytes : List ℕ → ℕ → ℕ → List ℕ → List ℕ
pong_bytes number pingHops hops payload = message number pong_type (max 1 pingHops) hops payload

-- stored Hops plus 1; Hops of 255, which no state in order stores, stay
abbrev pub one_hop_more : ℕ → ℕ
one_hop_more hops = min 255 (hops + 1)

abbrev pub stored_bytes : List ℕ → ℕ → List Pong → List ℕ
stored_bytes number pingHops ps = flat (map (λ p. pong_bytes number pingHops (one_hop_more p.hops) p.bytes) ps)

abbrev pub own_pong : Own → List ℕ
own_pong own = little_bytes 2 own.port
    ++ (own.address ++ (little_bytes 4 own.files ++ little_bytes 4 own.kilobytes))

-- the own pong: to a probe always, else where the station takes calls
abbrev pub own_sent : Own → List ℕ → ℕ → Bool → List ℕ
own_sent own number pingHops probe = cond (probe || own.calls) (pong_bytes number pingHops 0 (own_pong own)) []

-- the own pong, and then, but for a probe, the stored ones
unfoldable pub pongs_sent : List Line → ℕ → ℕ → Own → List ℕ → ℕ → Bool → List ℕ
pongs_sent lines l clock own number pingHops probe =
    own_sent own number pingHops probe ++ cond probe [] (stored_bytes number pingHops (stored_sent lines l clock))

-- the pongs that go back for a ping
abbrev pub pongs_back : List Line → ℕ → Terms → List ℕ → List ℕ
pongs_back lines l t m = pongs_sent lines l t.clock t.own (number_of m) (header_in m).hops (is_probe (header_in m))

-- the line after an accepted ping: a probe's time is not kept
abbrev pub time_kept : Line → Bool → ℕ → Line
time_kept x probe clock = cond probe x (pinged_at x clock)

-- pongs go back to the ping's line, if any are written
abbrev pub back_to : ℕ → ℕ → List Bool
back_to written l = cond (eqb written 0) nobody (only_to l)

abbrev pub ping_taken : List Line → ℕ → Terms → List ℕ → List ℕ → Step
ping_taken lines l t m route =
    sends (back_to (length (pongs_back lines l t m)) l) (pongs_back lines l t m)
    (quiet 0 (line_only (time_kept (line_in lines l) (is_probe (header_in m)) t.clock)) route)

-- a ping by line l
unfoldable pub ping_step : List Line → ℕ → Terms → List ℕ → List ℕ → Step
ping_step lines l t m route =
    refused_or (first_of (ping_rules (line_in lines l).pinged (line_in lines l).pingtime t.clock (header_in m)))
    (line_only (line_in lines l)) route
    (ping_taken lines l t m route)

-- an arriving pong: its first 14 bytes are stored; the eleventh takes the oldest's place
abbrev pub pong_rules : Header → List (Bool × ℕ)
pong_rules h = (ltb h.size 14, 6) ∷ (eqb h.ttl 0 || ltb pong_hops h.hops, 8) ∷ []

abbrev pub arrived_pong : ℕ → List ℕ → Pong
arrived_pong clock m = record { bytes = take 14 (payload_of m); hops = (header_in m).hops; clock = clock }

-- a pong by a line with this record
unfoldable pub pong_step : Line → ℕ → List ℕ → List ℕ → Step
pong_step x clock m route =
    refused_or (first_of (pong_rules (header_in m))) (line_only x) route
    (quiet 0 (line_only (with_pong x (arrived_pong clock m))) route)
