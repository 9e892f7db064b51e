-- The kinds of events, by an event's first byte.
use Rattle.std.specs.Prelude.{ℕ, ◌≡◌, ◌<◌, Result, MatchResult}
use Rattle.transcript.specs.declared.events.Kind.{Kind}
use Rattle.transcript.specs.declared.events.Kind.TheVariants.{Open, Close, Message}
use Rattle.transcript.specs.declared.events.NoKind.{NoKind}

-- the byte that stands for a kind
abbrev pub byte_of : Kind → ℕ
byte_of Open = 0
byte_of Close = 1
byte_of Message = 2

-- the kind that a byte names, or the byte itself where it names none
abbrev pub Reads : ℕ → Result Kind NoKind → Type 0
Reads byte r = MatchResult r (λ kind. byte_of kind ≡ byte) (λ e. (e.0 ≡ byte) × (2 < byte))
