-- How much of its bytes a message call reads and uses: the message at their front and nothing past it; and its answer
-- as one ordered list.
use Rattle.std.specs.Prelude.{ℕ, ◌+◌, ◌≤◌, ◌≡◌, Bool, cond, not, ◌&&◌, ◌||◌, List, [], ◌∷◌, ◌++◌, eqb, leb, length, take}
use Rattle.laws.specs.Tests.{first_of, any}
use Rattle.wire.specs.Header.{header_in, kind_of, ttl_of, hops_of, size_of, payload_of}
use Rattle.tables.specs.Tables.{Held}
use Rattle.tables.specs.Updates.{is_patch, good_reset, good_patch, in_turn, in_range}
use Rattle.protocol.specs.State.{Station, line_at, held_at, looked_up}
use Rattle.protocol.specs.Memory.{number_in}
use Rattle.protocol.specs.Order.{in_order}
use Rattle.protocol.specs.Outcomes.{Terms}
use Rattle.protocol.specs.Queries.{usual_limit, query_rules, has_text}
use Rattle.protocol.specs.Hits.{hit_rules}
use Rattle.protocol.specs.Pings.{ping_rules, pong_rules}
use Rattle.protocol.specs.Calls.{early_rules, message_outcome, message_report}

-- a whole message stands at the front: its header and as much payload as the header says
abbrev pub Whole : List ℕ → Type 0
Whole m = 23 + size_of m ≤ length m

-- every call with one is as the call with the other: answer, state, lines, bytes sent, route area, text, delivery, and
-- bytes used
pub record TakenAlike (m' m : List ℕ) : Type 0 where
  pub outcome : (s : Station) (l : ℕ) (t : Terms) (route : List ℕ)
      → message_outcome s l m' t route ≡ message_outcome s l m t route
  pub report : (s : Station) (l : ℕ) (t : Terms) (route : List ℕ)
      → message_report s l m' t route ≡ message_report s l m t route

-- RULES 2.8: what stands behind the message has no influence, whatever it is, and can as well be left away
pub record ReadNoFurther (m : List ℕ) : Type 0 where
  pub more : (x : List ℕ) → TakenAlike (m ++ x) m
  pub less : TakenAlike (take (23 + size_of m) m) m

abbrev pub Blind : Type 0
Blind = (m : List ℕ) → Whole m → ReadNoFurther m

-- nothing is used where the answer is 1 to 5, else the header and the payload
abbrev pub used_after : ℕ → List ℕ → ℕ
used_after answer m = cond (leb 1 answer && leb answer 5) 0 (23 + size_of m)

abbrev pub UsedExact : Type 0
UsedExact =
    (s : Station) (l : ℕ) (m : List ℕ) (t : Terms) (route : List ℕ)
    → (message_report s l m t route).used ≡ used_after (message_report s l m t route).answer m

-- the refusals of an update, in order
abbrev pub update_rules : ℕ → Held → ℕ → ℕ → List ℕ → List (Bool × ℕ)
update_rules room h ttl hops p =
    (not (eqb ttl 1 && eqb hops 0), 14)
    ∷ (not (good_reset room p || good_patch p), 14)
    ∷ (is_patch p && not (in_turn h p), 15)
    ∷ (is_patch p && not (in_range h p), 16)
    ∷ []

-- the refusals of a message of each type: Ping 0x00, Pong 0x01, route update 0x30, Query 0x80, Query Hit 0x81
abbrev pub type_rules : Station → ℕ → ℕ → List ℕ → List ℕ → List (Bool × ℕ)
type_rules s l clock m route =
    cond (eqb (kind_of m) 0x00) (ping_rules (line_at s l).pinged (line_at s l).pingtime clock (header_in m))
    (cond (eqb (kind_of m) 0x01) (pong_rules (header_in m))
    (cond (eqb (kind_of m) 0x30) (update_rules s.room (held_at s l route) (ttl_of m) (hops_of m) (payload_of m))
    (cond (eqb (kind_of m) 0x80) (query_rules usual_limit (header_in m) (has_text (payload_of m)) (looked_up s (number_in m)))
    (cond (eqb (kind_of m) 0x81) (hit_rules (header_in m) (looked_up s (number_in m))) []))))

-- a type that has no rules
abbrev pub unnamed : List ℕ → Bool
unnamed m = not (any (eqb (kind_of m)) (0x00 ∷ 0x01 ∷ 0x30 ∷ 0x80 ∷ 0x81 ∷ []))

-- all refusals of a message call in one ordered list: the answer is the first that holds, and 0 where none does
abbrev pub Numbers : Type 0
Numbers =
    (s : Station) (l : ℕ) (m : List ℕ) (t : Terms) (route : List ℕ)
    → (message_outcome s l m t route).answer
    ≡ first_of
    (early_rules (in_order s) s.room t.out (length route) l (line_at s l).live (length m) (size_of m)
    ++ ((unnamed m, 7) ∷ type_rules s l t.clock m route))
