-- No table keeps back a text without a keyword, such as one of hyphens alone (RULES 11.1 with 7.7 and 8.3): whatever
-- the neighbours' tables hold, it goes to every line that the other rules name.
use Rattle.std.specs.Prelude.{ℕ, ◌≤◌, ◌<◌, ◌≡◌, true, false, ◌↔◌, List, get_or}
use Rattle.wire.specs.Header.{kind_of, payload_of}
use Rattle.keywords.specs.Cutting.{Separates, Throughout}
use Rattle.keywords.specs.Keywords.{keywords_of}
use Rattle.tables.specs.Tables.{Held}
use Rattle.tables.specs.Admission.{withholds}
use Rattle.protocol.specs.State.{Station, line_at}
use Rattle.protocol.specs.Outcomes.{Terms}
use Rattle.protocol.specs.Queries.{usual_limit, text_in}
use Rattle.protocol.specs.Periods.{life_left}
use Rattle.protocol.specs.Calls.{message_outcome, own_outcome}

-- no table withholds it, at any TTL
abbrev pub WithheldByNone : Type 0
WithheldByNone = (text : List ℕ) → Throughout Separates text
    → (h : Held) (ttl : ℕ) → withholds h (keywords_of text) ttl ≡ false

-- an arriving one that is taken goes to exactly the other open lines, where its life is 2 or more
abbrev pub GoesToAll : Type 0
GoesToAll = (s : Station) (l : ℕ) (m : List ℕ) (t : Terms) (route : List ℕ)
    → kind_of m ≡ 0x80
    → Throughout Separates (text_in (payload_of m))
    → (message_outcome s l m t route).answer ≡ 0
    → (k : ℕ) → k < 8
    → (get_or (message_outcome s l m t route).to k false ≡ true)
    ↔ (((line_at s k).live ≡ true) × (k ≡ l → ⊥) × (2 ≤ life_left usual_limit m))

-- an own one that is taken goes to exactly the open lines
abbrev pub AskedOfAll : Type 0
AskedOfAll = (s : Station) (number text : List ℕ) (out : ℕ) (route : List ℕ)
    → Throughout Separates text
    → (own_outcome s number text out route).answer ≡ 0
    → (k : ℕ) → k < 8
    → (get_or (own_outcome s number text out route).to k false ≡ true) ↔ ((line_at s k).live ≡ true)
