-- What a call leaves, and the constructors by which every outcome is made.
use Rattle.std.specs.Prelude.{ℕ, ◌+◌, Bool, true, false, cond, ◌&&◌, List, [], eqb, leb, length}
use Rattle.laws.specs.Tests.{any}
use Rattle.wire.specs.Header.{size_of}
use Rattle.protocol.specs.declared.Own.{Own}
use Rattle.protocol.specs.declared.Age.{Age}
use Rattle.protocol.specs.declared.Report.{Report}
use Rattle.protocol.specs.Lines.{each_line}
use Rattle.protocol.specs.Memory.{Number, no_age}
use Rattle.protocol.specs.State.{Station, Change, state_after}

-- what a message or an own query brings besides: the caller's clock, what this station says of itself, and the length
-- of the output area
pub record Terms : Type 0 where
  pub clock : ℕ
  pub own : Own
  pub out : ℕ

abbrev pub terms_of : ℕ → Own → ℕ → Terms
terms_of clock own out = record { clock = clock; own = own; out = out }

-- the answer, what is left of the state, the lines sent to, the bytes written at the front of the output area, the
-- route area after the call, the text offered to the local search (its place and length in the message), whether a hit
-- is delivered here, and the age that is handed up
pub record Result (S : Type 0) : Type 0 where
  pub answer : ℕ
  pub state : S
  pub to : List Bool
  pub sent : List ℕ
  pub route : List ℕ
  pub search : Bool
  pub textat : ℕ
  pub textlen : ℕ
  pub delivered : Bool
  pub age : Age

-- a call leaves a whole state; what a message does by its type leaves a change of it
abbrev pub Outcome : Type 0
Outcome = Result Station

abbrev pub Step : Type 0
Step = Result Change

abbrev pub nobody : List Bool
nobody = each_line (λ k. false)

abbrev pub only_to : ℕ → List Bool
only_to l = each_line (eqb l)

-- RULES 7.6: written once for however many lines, and not where there is none
abbrev pub written_for : List Bool → List ℕ → List ℕ
written_for to bytes = cond (any (λ b. b) to) bytes []

-- a result of its ten parts, in their order: every constructor below is made by this one
abbrev made : {S : Type 0} → ℕ → S → List Bool → List ℕ → List ℕ → Bool → ℕ → ℕ → Bool → Age → Result S
made answer state to sent route search textat textlen delivered age =
    record {
      answer = answer;
      state = state;
      to = to;
      sent = sent;
      route = route;
      search = search;
      textat = textat;
      textlen = textlen;
      delivered = delivered;
      age = age;
    }

module _ {S : Type 0} where
  -- answered n, and nothing is sent, searched, delivered or handed up
  abbrev pub quiet : ℕ → S → List ℕ → Result S
  quiet n s route = made n s nobody [] route false 0 0 false no_age

  -- the same, and these bytes are sent to these lines
  abbrev pub sends : List Bool → List ℕ → Result S → Result S
  sends to bytes r =
      made r.answer r.state to bytes r.route r.search r.textat r.textlen r.delivered r.age

  -- the same, and the text at this place of the message is offered to the local search
  abbrev pub searches : ℕ → ℕ → Result S → Result S
  searches at n r = made r.answer r.state r.to r.sent r.route true at n r.delivered r.age

  -- the same, and whether the hit is delivered here
  abbrev pub delivers : Bool → Result S → Result S
  delivers b r =
      made r.answer r.state r.to r.sent r.route r.search r.textat r.textlen b r.age

  -- the same, and this age is handed up
  abbrev pub hands_up : Age → Result S → Result S
  hands_up age r =
      made r.answer r.state r.to r.sent r.route r.search r.textat r.textlen r.delivered age

  abbrev pub pick_result : Bool → Result S → Result S → Result S
  pick_result true a b = a
  pick_result false a b = b

  -- refused by n, which leaves what stands, or else what follows
  abbrev pub refused_or : ℕ → S → List ℕ → Result S → Result S
  refused_or n s route r = pick_result (eqb n 0) r (quiet n s route)

  -- the same with another state
  abbrev pub leaving : {T : Type 0} → T → Result S → Result T
  leaving t r =
      made r.answer t r.to r.sent r.route r.search r.textat r.textlen r.delivered r.age

  -- as a caller is told it, with the bytes used; the output and route areas are handed back in place
  abbrev pub report_of : Result S → ℕ → Report
  report_of r used =
      record {
        answer = r.answer;
        used = used;
        written = length r.sent;
        to = r.to;
        search = r.search;
        delivered = r.delivered;
        textat = r.textat;
        textlen = r.textlen;
        age = r.age;
      }

-- what a message with this number by line l does, stored
abbrev pub stored : Station → ℕ → Number → Step → Outcome
stored s l x r = leaving (state_after s l x r.state) r

-- the answers of which nothing is consumed: 1 to 5
abbrev pub unused : ℕ → Bool
unused n = leb 1 n && leb n 5

-- bytes used of a message
abbrev pub used_of : ℕ → List ℕ → ℕ
used_of n m = cond (unused n) 0 (23 + size_of m)
