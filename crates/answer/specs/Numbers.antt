-- The numbers of the refusals (RULES 2.1), and the answer that an outcome comes to.
use Rattle.std.specs.Prelude.{ℕ, ◌≡◌, Result, Ok, Err}
use Rattle.answer.specs.declared.Refusal.{Refusal}
use Rattle.answer.specs.declared.Refusal.TheVariants.{NotInOrder, BadArea, BadLine, NotWhole, TooLong, BadPayload, UnknownType}
use Rattle.answer.specs.declared.Refusal.TheVariants.{BadTtlOrHops, Repeated, NotFound, AskerClosed, HopsFull, PingTooSoon}
use Rattle.answer.specs.declared.Refusal.TheVariants.{BadUpdate, OutOfTurn, EntryOutOfRange, BadHandshake, NoGroupEnd, Shut}
use Rattle.answer.specs.declared.Refusal.TheVariants.{ListFull, AnsweredEnough}

abbrev pub number_of : Refusal → ℕ
number_of NotInOrder = 1
number_of BadArea = 2
number_of BadLine = 3
number_of NotWhole = 4
number_of TooLong = 5
number_of BadPayload = 6
number_of UnknownType = 7
number_of BadTtlOrHops = 8
number_of Repeated = 9
number_of NotFound = 10
number_of AskerClosed = 11
number_of HopsFull = 12
number_of PingTooSoon = 13
number_of BadUpdate = 14
number_of OutOfTurn = 15
number_of EntryOutOfRange = 16
number_of BadHandshake = 17
number_of NoGroupEnd = 18
number_of Shut = 19
number_of ListFull = 20
number_of AnsweredEnough = 21

-- 0 where the call was carried out
abbrev pub answer_of : {A : Type 0} → Result A Refusal → ℕ
answer_of (Ok x) = 0
answer_of (Err refusal) = number_of refusal

-- two refusals that have one number are one: a number says which refusal it is
abbrev pub TellsApart : Type 0
TellsApart = (a b : Refusal) → number_of a ≡ number_of b → a ≡ b
