-- What a caller in C is told of a hit that was written, or refused.
use Rattle.std.specs.Prelude.{Result, Ok, Err}
use Rattle.answer.specs.declared.Refusal.{Refusal}
use Rattle.answer.specs.Numbers.{number_of}
use Rattle.answering.specs.declared.WrittenHit.{WrittenHit}
use Rattle.answering.specs.declared.HitsWritten.{HitsWritten}

abbrev pub written_by : Result WrittenHit Refusal → HitsWritten
written_by (Ok hit) = record { answer = 0; results = hit.results; written = hit.size }
written_by (Err refusal) = record { answer = number_of refusal; results = 0; written = 0 }
