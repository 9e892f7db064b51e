-- However a line's bytes are cut, literally: scraps are handed over one after the other, each until it is used up. The
-- messages are those of the bytes joined, whatever the scraps are, and each has the terms of the scrap with its last
-- byte.
use Rattle.std.specs.Prelude.{ℕ, zero, suc, ◌+◌, ◌≤◌, ◌≡◌, true, false, List, [], ◌∷◌, ◌++◌, map, length, drop}
use Rattle.protocol.specs.State.{line_at}
use Rattle.protocol.specs.Order.{in_order}
use Rattle.protocol.specs.Outcomes.{Terms}
use Rattle.protocol.specs.Runs.{Call, Open, Close, Message, Ask, Same, run}
use Rattle.protocol.specs.Arrived.{Areas}
use Rattle.protocol.specs.Kept.{Sized}
use Rattle.receiving.specs.Feeding.{starts, held_bytes}
use Rattle.receiving.specs.Events.{Event, Feed, AsLeft, Receiver, world_of, used_by, handle}
use Rattle.receiving.specs.Bare.{bare_world}
use Rattle.receiving.specs.Frames.{Stream, bytes_in}

-- bytes, and what the calls bring that hand them over
pub record Scrap : Type 0 where
  pub bytes : List ℕ
  pub terms : Terms

abbrev pub scrap_of : Terms → List ℕ → Scrap
scrap_of t bytes = record { bytes = bytes; terms = t }

abbrev pub handing : ℕ → List ℕ → Terms → Event
handing l bytes t = Feed l bytes t Same AsLeft

-- a scrap by line l, until it is used up: as many calls as it has bytes are enough
abbrev pub driven : ℕ → ℕ → Terms → Receiver → List ℕ → Receiver
driven zero l t w bytes = w
driven (suc n) l t w [] = w
driven (suc n) l t w (b ∷ bs) =
    driven n l t (handle w (handing l (b ∷ bs) t)) (drop (used_by w (handing l (b ∷ bs) t)) (b ∷ bs))

abbrev pub driven_by : ℕ → Receiver → Scrap → Receiver
driven_by l w x = driven (length x.bytes) l x.terms w x.bytes

abbrev pub driven_all : ℕ → Receiver → List Scrap → Receiver
driven_all l w [] = w
driven_all l w (x ∷ xs) = driven_all l (driven_by l w x) xs

-- the stream that goes on from the held bytes
abbrev pub stream_at : ℕ → Receiver → Stream
stream_at l w = record { whole = []; rest = held_bytes (line_at w.state l) (w.held l); over = false }

abbrev pub cut_into : ℕ → Stream → List Scrap → Stream
cut_into l f [] = f
cut_into l f (x ∷ xs) = cut_into l (bytes_in l x.terms Same f x.bytes) xs

abbrev pub bytes_in' : List Scrap → List ℕ
bytes_in' [] = []
bytes_in' (x ∷ xs) = x.bytes ++ bytes_in' xs

-- every scrap is lent an output area that is long enough
abbrev pub Fitting : List Scrap → Type 0
Fitting [] = Unit {0}
Fitting (x ∷ xs) = (4119 ≤ x.terms.out) × Fitting xs

-- a state in order with line l open and not shut, held bytes that start a message, and areas that fit
pub record Ready (l : ℕ) (w : Receiver) : Type 0 where
  pub sized : Sized w.state
  pub order : in_order w.state ≡ true
  pub areas : Areas w.state 4119 w.area
  pub line : l ≤ 7
  pub live : (line_at w.state l).live ≡ true
  pub open' : (line_at w.state l).pending.shut ≡ false
  pub begun : starts (held_bytes (line_at w.state l) (w.held l)) ≡ true
  pub long : 4119 ≤ length (w.held l)

-- what handing the scraps over comes to, f being the stream that they go on with
pub record CutAs (l : ℕ) (w w' : Receiver) (f : Stream) : Type 0 where
  -- state, route area and the log of calls with their outcomes are those of the whole messages
  pub calls : bare_world (world_of w') ≡ run (bare_world (world_of w)) f.whole
  pub over : (line_at w'.state l).pending.shut ≡ f.over
  -- all bytes are used: what is not of a whole message is held
  pub rest : f.over ≡ false → held_bytes (line_at w'.state l) (w'.held l) ≡ f.rest

abbrev pub Driven : Type 0
Driven =
    (l : ℕ) (w : Receiver) (xs : List Scrap)
    → Ready l w → Fitting xs
    → CutAs l w (driven_all l w xs) (cut_into l (stream_at l w) xs)

-- two lists of scraps that come to the same messages, each with the same terms at its last byte, come to the same
-- answers, bytes sent and end state
abbrev pub CutAlike : Type 0
CutAlike =
    (l : ℕ) (w : Receiver) (xs ys : List Scrap)
    → Ready l w → Fitting xs → Fitting ys
    → (cut_into l (stream_at l w) xs).whole ≡ (cut_into l (stream_at l w) ys).whole
    → bare_world (world_of (driven_all l w xs)) ≡ bare_world (world_of (driven_all l w ys))

-- and which messages these are is said by the bytes joined, however they are cut and whatever the terms
abbrev pub messages_of : List Call → List (List ℕ)
messages_of [] = []
messages_of (Open l ∷ cs) = messages_of cs
messages_of (Close l ∷ cs) = messages_of cs
messages_of (Message l m t a ∷ cs) = m ∷ messages_of cs
messages_of (Ask n text t a ∷ cs) = messages_of cs

pub record SameMessages (f g : Stream) : Type 0 where
  pub messages : messages_of f.whole ≡ messages_of g.whole
  pub rest : f.rest ≡ g.rest
  pub over : f.over ≡ g.over

abbrev pub BytesDecide : Type 0
BytesDecide = (l : ℕ) (t : Terms) (f : Stream) (xs : List Scrap)
    → SameMessages (cut_into l f xs) (bytes_in l t Same f (bytes_in' xs))

-- scraps with the same terms come to what their bytes in one scrap come to: answers, bytes sent and end state
abbrev pub AnyCut : Type 0
AnyCut =
    (l : ℕ) (w : Receiver) (t : Terms) (cuts : List (List ℕ))
    → Ready l w → 4119 ≤ t.out
    → bare_world (world_of (driven_all l w (map (scrap_of t) cuts)))
    ≡ bare_world (world_of (driven_all l w (scrap_of t (bytes_in' (map (scrap_of t) cuts)) ∷ [])))

-- a scrap takes at most one call more than it completes messages, a header with too large a payload among them; f is
-- its stream. Behind such a header every call is answered 19
abbrev pub FewCalls : Type 0
FewCalls =
    (l : ℕ) (w : Receiver) (x : Scrap)
    → Ready l w → 4119 ≤ x.terms.out
    → (bytes_in l x.terms Same (stream_at l w) x.bytes).over ≡ false
    → length (driven_by l w x).log
    ≤ length w.log + (length (bytes_in l x.terms Same (stream_at l w) x.bytes).whole + 1)
