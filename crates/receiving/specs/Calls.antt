-- One call that brings bytes, from outside: its answer as one ordered list, the bytes that it uses, what it leaves, and
-- what it does not read.
use Rattle.std.specs.Prelude.{ℕ, ◌+◌, ◌-◌, ◌≤◌, ◌<◌, ◌≡◌, Bool, true, false, cond, ◌↔◌, ◌⊎◌, List, [], ◌∷◌, ◌++◌, ltb, length, take, drop}
use Rattle.laws.specs.Tests.{first_of}
use Rattle.wire.specs.Header.{size_of}
use Rattle.protocol.specs.State.{Station, line_at}
use Rattle.protocol.specs.Order.{in_order}
use Rattle.protocol.specs.Outcomes.{Terms, quiet, hands_up}
use Rattle.protocol.specs.Blind.{type_rules, unnamed}
use Rattle.protocol.specs.Kept.{Sized, Kept, after_refusal}
use Rattle.receiving.specs.Feeding.{Fed, feed_rules, starts, held_bytes, joined, front_of, holding, shut_line, on_line, waiting}
use Rattle.receiving.specs.Feeding.{feed_outcome}
use Rattle.receiving.specs.Events.{unread}

-- the bytes of a message that are there end before it does; its header has a payload over 4,096 bytes; it is whole
abbrev pub Unfinished : List ℕ → Type 0
Unfinished b = (length b < 23) ⊎ ((size_of b ≤ 4096) × (length b < 23 + size_of b))

abbrev pub TooLarge : List ℕ → Type 0
TooLarge b = (23 ≤ length b) × (4096 < size_of b)

abbrev pub WholeAt : List ℕ → Type 0
WholeAt b = (size_of b ≤ 4096) × (23 + size_of b ≤ length b)

-- a call with bytes by line l: h bytes are held, and j are these and those brought
module _ (s : Station) (l : ℕ) (bytes held : List ℕ) (t : Terms) (route : List ℕ) where
  abbrev pub fed : Fed Station
  fed = feed_outcome s l bytes held t route

  abbrev pub in_all : List ℕ
  in_all = joined (line_at s l) held bytes

  abbrev pub held_count : ℕ
  held_count = (line_at s l).pending.count

  -- all refusals before the bytes count
  abbrev pub before : List (Bool × ℕ)
  before =
      feed_rules (in_order s) s.room t.out (length route) (length held) l (line_at s l)
      (starts (held_bytes (line_at s l) held))

  -- the answer as one ordered list, but for a call that waits: one does exactly if nothing before refuses it and what is
  -- there of the message ends before it does. It is never answered 4
  pub record Numbered : Type 0 where
    pub waits : (fed.waits ≡ true) ↔ ((first_of before ≡ 0) × Unfinished in_all)
    pub answer : fed.waits ≡ false
        → fed.result.answer
        ≡ first_of (before ++ ((ltb 4096 (size_of in_all), 5) ∷ (unnamed (front_of in_all), 7)
        ∷ type_rules s l t.clock (front_of in_all) route))
    pub no_four : fed.result.answer ≡ 4 → ⊥
    pub no_number : fed.waits ≡ true → fed.result.answer ≡ waiting
    pub no_other : fed.result.answer ≡ waiting → fed.waits ≡ true

  -- held bytes that start a message are short of one: not whole, and not too large; so every count past 4,118, and past
  -- the area's end, starts none
  pub record Starting : Type 0 where
    pub exactly : (starts (held_bytes (line_at s l) held) ≡ true) ↔ Unfinished (held_bytes (line_at s l) held)
    pub counted : 4119 ≤ length held → starts (held_bytes (line_at s l) held) ≡ true → held_count ≤ 4118

  -- the bytes that are used of those brought
  pub record Uses : Type 0 where
    pub unread' : unread fed.result.answer ≡ true → fed.used ≡ 0
    pub waiting' : fed.waits ≡ true → fed.used ≡ length bytes
    pub over : fed.result.answer ≡ 5 → (fed.used ≡ 23 - held_count) × TooLarge in_all
    pub whole : fed.waits ≡ false → unread fed.result.answer ≡ false → (fed.result.answer ≡ 5 → ⊥)
        → (fed.used ≡ 23 + size_of in_all - held_count) × WholeAt in_all
    pub most : fed.used ≤ length bytes
    -- where bytes are brought and none of 1 to 3 and 19 is answered, at least one is used
    pub some : (bytes ≡ [] → ⊥) → unread fed.result.answer ≡ false → 1 ≤ fed.used

  -- what a call leaves
  pub record Leaves : Type 0 where
    -- refused by 1 to 3 or 19, or with no bytes: everything
    pub unread' : unread fed.result.answer ≡ true
        → (fed.result ≡ quiet fed.result.answer s route) × (fed.held ≡ held)
    pub nothing : bytes ≡ []
        → (fed.result ≡ quiet fed.result.answer s route) × (fed.held ≡ held) × (fed.used ≡ 0)
    -- where it waits: the bytes are behind the held ones, and the state knows how many they are
    pub waiting' : fed.waits ≡ true
        → (fed.result ≡ quiet waiting (on_line (holding (held_count + length bytes)) l s) route)
        × (take (held_count + length bytes) fed.held ≡ in_all)
    -- 5: the line is shut, and holds nothing
    pub over : fed.result.answer ≡ 5 → (fed.result ≡ quiet 5 (on_line shut_line l s) route) × (fed.held ≡ held)
    -- any other refusal: what document 01 allows, and the line holds nothing; an age may be handed up
    pub refused : fed.waits ≡ false → unread fed.result.answer ≡ false
        → (fed.result.answer ≡ 5 → ⊥) → (fed.result.answer ≡ 0 → ⊥)
        → fed.result
        ≡ hands_up fed.result.age (quiet fed.result.answer
        (on_line (holding 0) l (after_refusal fed.result.answer s l (front_of in_all))) route)
    -- the held area keeps its length, and the bytes that were held
    pub long : length fed.held ≡ length held
    pub front : take held_count fed.held ≡ take held_count held
    pub behind : (n : ℕ) → held_count + fed.used ≤ n → drop n fed.held ≡ drop n held
    -- every other line's held bytes and shut mark
    pub others : (k : ℕ) → (k ≡ l → ⊥) → (line_at fed.result.state k).pending ≡ (line_at s k).pending
    -- a state in order stays in order
    pub kept : Sized s → in_order s ≡ true → Kept s fed.result.state

  -- where a message that was taken stands: in the held area exactly if some of it were held, else in the bytes that were
  -- brought; and what is held of the line then
  pub record Taken : Type 0 where
    pub within' : fed.within ≡ ltb 0 held_count
    pub stands : take (23 + size_of in_all) (cond fed.within fed.held bytes) ≡ front_of in_all
    pub dropped : (line_at fed.result.state l).pending.count ≡ 0

  pub record Places : Type 0 where
    pub taken : fed.waits ≡ false → unread fed.result.answer ≡ false → (fed.result.answer ≡ 5 → ⊥) → Taken
    pub none : (fed.waits ≡ true) ⊎ ((unread fed.result.answer ≡ true) ⊎ (fed.result.answer ≡ 5))
        → fed.within ≡ false
    -- the held area is written only where bytes are put behind held ones, or wait
    pub alone : fed.waits ≡ false → held_count ≡ 0 → fed.held ≡ held
    pub shut : fed.result.answer ≡ 5 → length s.lines ≡ 8
        → (line_at fed.result.state l).pending ≡ record { count = 0; shut = true }

abbrev pub FeedNumbers : Type 0
FeedNumbers = (s : Station) (l : ℕ) (bytes held : List ℕ) (t : Terms) (route : List ℕ)
    → Numbered s l bytes held t route

abbrev pub FeedStarts : Type 0
FeedStarts = (s : Station) (l : ℕ) (bytes held : List ℕ) (t : Terms) (route : List ℕ)
    → Starting s l bytes held t route

abbrev pub FeedUses : Type 0
FeedUses = (s : Station) (l : ℕ) (bytes held : List ℕ) (t : Terms) (route : List ℕ) → Uses s l bytes held t route

abbrev pub FeedLeaves : Type 0
FeedLeaves = (s : Station) (l : ℕ) (bytes held : List ℕ) (t : Terms) (route : List ℕ) → Leaves s l bytes held t route

abbrev pub FeedPlaces : Type 0
FeedPlaces = (s : Station) (l : ℕ) (bytes held : List ℕ) (t : Terms) (route : List ℕ) → Places s l bytes held t route

-- where a call does not wait, what stands behind the bytes that are there has no influence
abbrev pub BehindUnread : Type 0
BehindUnread =
    (s : Station) (l : ℕ) (bytes more held : List ℕ) (t : Terms) (route : List ℕ)
    → (feed_outcome s l bytes held t route).waits ≡ false
    → feed_outcome s l (bytes ++ more) held t route ≡ feed_outcome s l bytes held t route
