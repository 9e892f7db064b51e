-- What a line's table is expected to be, from the calls alone (RULES 14; document 01: slate): a definition without
-- code.
-- Of a call it gets what the call brings, but no state and no area, and of an answer only whether that is 1 to 5; and
-- the room. Nothing else reaches it.
use Rattle.std.specs.Prelude.{ℕ, Bool, true, false, cond, ◌&&◌, List, [], ◌∷◌, map, eqb}
use Rattle.wire.specs.Header.{kind_of, ttl_of, hops_of, payload_of}
use Rattle.tables.specs.Tables.{Held, no_table}
use Rattle.tables.specs.Updates.{update_answer, updated}
use Rattle.protocol.specs.Runs.{Call, Open, Close, Message, Ask, Made, unsent}

pub record Expected : Type 0 where
  pub live : Bool
  pub held : Held

-- as after an opening (true) or a closing (false): mark none, and the rest wiped
abbrev pub wiped : Bool → Expected
wiped live = record { live = live; held = record { table = no_table; entries = [] } }

-- what a call brings
pub data Brought : Type 0 where
  opens : (line : ℕ) → Brought
  closes : (line : ℕ) → Brought
  brings : (line : ℕ) (m : List ℕ) → Brought
  asks : Brought

abbrev pub brought : Call → Brought
brought (Open l) = opens l
brought (Close l) = closes l
brought (Message l m t a) = brings l m
brought (Ask n text t a) = asks

-- an update is a message of type 0x30
abbrev pub is_update_of : ℕ → ℕ → List ℕ → Bool
is_update_of L l m = eqb l L && eqb (kind_of m) 0x30

-- it answers an update itself, by the table's rules, and what it holds is then as they say
abbrev pub expected_answer : ℕ → Expected → List ℕ → ℕ
expected_answer room e m = update_answer room e.held (ttl_of m) (hops_of m) (payload_of m)

abbrev pub hears : ℕ → List ℕ → Expected → Expected
hears room m e = record { live = e.live; held = updated room e.held (ttl_of m) (hops_of m) (payload_of m) }

-- RULES 14.2: it stays, but for an opening, a closing or an update of its line that is not answered 1 to 5
unfoldable pub feed : (L room : ℕ) → Brought → (refused : Bool) → Expected → Expected
feed L room b true e = e
feed L room (opens l) false e = cond (eqb l L) (wiped true) e
feed L room (closes l) false e = cond (eqb l L) (wiped false) e
feed L room (brings l m) false e = cond (is_update_of L l m) (hears room m e) e
feed L room asks false e = e

-- all that reaches it of a call
pub record Fed : Type 0 where
  pub call : Brought
  pub refused : Bool

abbrev pub fed : Made → Fed
fed d = record { call = brought d.call; refused = unsent d.call d.outcome.answer }

-- it begins as after a closing; the list has the newest first
abbrev pub fed_all : (L room : ℕ) → List Fed → Expected
fed_all L room [] = wiped false
fed_all L room (f ∷ fs) = feed L room f.call f.refused (fed_all L room fs)

abbrev pub expected : (L room : ℕ) → List Made → Expected
expected L room log = fed_all L room (map fed log)
