-- No two refusals have one number, and none has 0.
use Rattle.std.proofs.Common.{ℕ, ◌≡◌, refl, sym, ap, ◌∙◌, List, [], ◌∷◌, get_or}
use Rattle.answer.specs.declared.Refusal.{Refusal}
use Rattle.answer.specs.declared.Refusal.TheVariants.{NotInOrder, BadArea, BadLine, NotWhole, TooLong, BadPayload, UnknownType}
use Rattle.answer.specs.declared.Refusal.TheVariants.{BadTtlOrHops, Repeated, NotFound, AskerClosed, HopsFull, PingTooSoon}
use Rattle.answer.specs.declared.Refusal.TheVariants.{BadUpdate, OutOfTurn, EntryOutOfRange, BadHandshake, NoGroupEnd, Shut}
use Rattle.answer.specs.declared.Refusal.TheVariants.{ListFull, AnsweredEnough}
use Rattle.std.specs.Prelude.{Result, Ok, Err}
use Rattle.answer.specs.Numbers.{number_of, answer_of, TellsApart}

-- the refusals from 1 on, at the places of their numbers
refusals : List Refusal
refusals =
    NotInOrder ∷ NotInOrder ∷ BadArea ∷ BadLine ∷ NotWhole ∷ TooLong ∷ BadPayload ∷ UnknownType ∷ BadTtlOrHops
    ∷ Repeated ∷ NotFound ∷ AskerClosed ∷ HopsFull ∷ PingTooSoon ∷ BadUpdate ∷ OutOfTurn ∷ EntryOutOfRange
    ∷ BadHandshake ∷ NoGroupEnd ∷ Shut ∷ ListFull ∷ AnsweredEnough ∷ []

-- the refusal with a number
named : ℕ → Refusal
named n = get_or refusals n NotInOrder

is_named : (r : Refusal) → named (number_of r) ≡ r
unfolding named refusals
is_named NotInOrder = refl
is_named BadArea = refl
is_named BadLine = refl
is_named NotWhole = refl
is_named TooLong = refl
is_named BadPayload = refl
is_named UnknownType = refl
is_named BadTtlOrHops = refl
is_named Repeated = refl
is_named NotFound = refl
is_named AskerClosed = refl
is_named HopsFull = refl
is_named PingTooSoon = refl
is_named BadUpdate = refl
is_named OutOfTurn = refl
is_named EntryOutOfRange = refl
is_named BadHandshake = refl
is_named NoGroupEnd = refl
is_named Shut = refl
is_named ListFull = refl
is_named AnsweredEnough = refl

pub tells_apart : TellsApart
tells_apart a b same = sym (is_named a) ∙ (ap named same ∙ is_named b)

-- no refusal has the number 0
pub never_zero : (r : Refusal) → number_of r ≡ 0 → ⊥
never_zero NotInOrder e = cc
never_zero BadArea e = cc
never_zero BadLine e = cc
never_zero NotWhole e = cc
never_zero TooLong e = cc
never_zero BadPayload e = cc
never_zero UnknownType e = cc
never_zero BadTtlOrHops e = cc
never_zero Repeated e = cc
never_zero NotFound e = cc
never_zero AskerClosed e = cc
never_zero HopsFull e = cc
never_zero PingTooSoon e = cc
never_zero BadUpdate e = cc
never_zero OutOfTurn e = cc
never_zero EntryOutOfRange e = cc
never_zero BadHandshake e = cc
never_zero NoGroupEnd e = cc
never_zero Shut e = cc
never_zero ListFull e = cc
never_zero AnsweredEnough e = cc

-- what ends with no refusal is answered 0
pub done_is : {A : Type 0} (r : Result A Refusal) → ((e : Refusal) → r ≡ Err e → ⊥) → answer_of r ≡ 0
done_is (Ok x) none = refl
done_is (Err e) none = absurd (none e refl)
