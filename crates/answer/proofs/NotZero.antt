-- A refusal's number is never 0, which is the answer of a call that was carried out.
use Rattle.std.proofs.Common.{◌≡◌, arith}
use Rattle.answer.specs.declared.Refusal.{Refusal}
use Rattle.answer.specs.declared.Refusal.TheVariants.{NotInOrder, BadArea, BadLine, NotWhole, TooLong, BadPayload, UnknownType}
use Rattle.answer.specs.declared.Refusal.TheVariants.{BadTtlOrHops, Repeated, NotFound, AskerClosed, HopsFull, PingTooSoon}
use Rattle.answer.specs.declared.Refusal.TheVariants.{BadUpdate, OutOfTurn, EntryOutOfRange, BadHandshake, NoGroupEnd, Shut}
use Rattle.answer.specs.declared.Refusal.TheVariants.{ListFull, AnsweredEnough}
use Rattle.answer.specs.Numbers.{number_of}

pub not_zero : (r : Refusal) → number_of r ≡ 0 → ⊥
not_zero NotInOrder e = omega arith
not_zero BadArea e = omega arith
not_zero BadLine e = omega arith
not_zero NotWhole e = omega arith
not_zero TooLong e = omega arith
not_zero BadPayload e = omega arith
not_zero UnknownType e = omega arith
not_zero BadTtlOrHops e = omega arith
not_zero Repeated e = omega arith
not_zero NotFound e = omega arith
not_zero AskerClosed e = omega arith
not_zero HopsFull e = omega arith
not_zero PingTooSoon e = omega arith
not_zero BadUpdate e = omega arith
not_zero OutOfTurn e = omega arith
not_zero EntryOutOfRange e = omega arith
not_zero BadHandshake e = omega arith
not_zero NoGroupEnd e = omega arith
not_zero Shut e = omega arith
not_zero ListFull e = omega arith
not_zero AnsweredEnough e = omega arith
