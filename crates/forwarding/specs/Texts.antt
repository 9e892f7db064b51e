-- The text of a query's payload, as the code hands it back.
use Rattle.std.specs.Prelude.{ℕ, List, length}
use Rattle.protocol.specs.Queries.{text_in, has_text}
use Rattle.forwarding.specs.declared.texts.Text.{Text}

-- whether a zero byte ends a text behind the speed, and how long the text is
abbrev pub text_of : List ℕ → Text
text_of payload = record { ended = has_text payload; length = length (text_in payload) }
