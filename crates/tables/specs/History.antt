-- What a list of updates on one table comes to, read off their bytes and answers alone: the run under way, the runs
-- that have ended, the sum that each entry is, and the quiet periods in which a table says nothing. The bytes are
-- read here anew: no rule of Updates, Patch or Tables is cited, so that a rule that is wrong there is at odds with
-- the laws of specs/Answers.
use Rattle.std.specs.Prelude.{ℕ, ◌+◌, ◌-◌, ◌*◌, ◌/◌, ◌%◌, Bool, true, false, cond, not, ◌&&◌, ◌||◌, List, [], ◌∷◌, ◌++◌, map, eqb, ltb, get_or, drop, ℤ, pos, neg_ℤ, ◌+ℤ◌}
use Rattle.laws.specs.Tests.{any}

-- the byte at a place of a payload: byte 0 is 0 for a RESET and 1 for a PATCH; in a PATCH byte 1 is the place in
-- the run, byte 2 the run's size, byte 3 the compressor, byte 4 the bits of a number, and the data begins at byte 5
abbrev pub byte : List ℕ → ℕ → ℕ
byte p i = get_or p i 0

-- in a RESET bytes 1 to 4 are the length, the least significant first, and byte 5 is Infinity
abbrev pub length_bytes : List ℕ → ℕ
length_bytes p = byte p 1 + 256 * byte p 2 + 65536 * byte p 3 + 16777216 * byte p 4

-- four bits are a number of -8 to 7, a byte is one of -128 to 127, in two's complement
abbrev pub four_bits : ℕ → ℤ
four_bits v = cond (ltb v 8) (pos v) (neg_ℤ (pos (16 - v)))

abbrev pub eight_bits : ℕ → ℤ
eight_bits v = cond (ltb v 128) (pos v) (neg_ℤ (pos (256 - v)))

-- two numbers to a byte, the first four bits first
abbrev pub halves : List ℕ → List ℤ
halves [] = []
halves (b ∷ bs) = four_bits (b / 16) ∷ four_bits (b % 16) ∷ halves bs

-- the numbers that a PATCH brings
unfoldable pub carried : List ℕ → List ℤ
carried p = cond (eqb (byte p 4) 4) (halves (drop 5 p)) (map eight_bits (drop 5 p))

-- an update and its answer
pub record Update : Type 0 where
  pub payload : List ℕ
  pub answer : ℕ

abbrev pub accepted : Update → Bool
accepted u = eqb u.answer 0

abbrev pub is_reset : Update → Bool
is_reset u = accepted u && eqb (byte u.payload 0) 0

-- an accepted PATCH: its run goes on behind it, or ends with it
abbrev pub goes_on : Update → Bool
goes_on u = accepted u && (eqb (byte u.payload 0) 1 && not (eqb (byte u.payload 1) (byte u.payload 2)))

abbrev pub ends : Update → Bool
ends u = accepted u && (eqb (byte u.payload 0) 1 && eqb (byte u.payload 1) (byte u.payload 2))

-- the messages of the run under way, the first first
abbrev pub messages : List Update → List (List ℕ)
messages [] = []
messages (u ∷ us) = cond (accepted u) (cond (goes_on u) (messages us ++ (u.payload ∷ [])) []) (messages us)

-- the runs that ended since the last accepted RESET, the newest first, each with all its messages
abbrev pub ended : List Update → List (List (List ℕ))
ended [] = []
ended (u ∷ us) = cond (is_reset u) [] (cond (ends u) ((messages us ++ (u.payload ∷ [])) ∷ ended us) (ended us))

-- the numbers that messages bring, message behind message: the first is for the first entry
abbrev pub brought : List (List ℕ) → List ℤ
brought [] = []
brought (p ∷ ps) = carried p ++ brought ps

abbrev pub under_way : List Update → List ℤ
under_way us = brought (messages us)

abbrev pub whole_runs : List Update → List (List ℤ)
whole_runs us = map brought (ended us)

-- the last accepted RESET, and the length and the Infinity that it named
abbrev pub last_reset : List Update → List ℕ
last_reset [] = []
last_reset (u ∷ us) = cond (is_reset u) u.payload (last_reset us)

abbrev pub length_named : List Update → ℕ
length_named us = length_bytes (last_reset us)

abbrev pub infinity_named : List Update → ℕ
infinity_named us = byte (last_reset us) 5

-- what runs bring to the entry j: the j-th number of each
abbrev pub total : ℕ → List (List ℤ) → ℤ
total j [] = pos 0
total j (r ∷ rs) = get_or r j (pos 0) +ℤ total j rs

abbrev pub sum_at : List Update → ℕ → ℤ
sum_at us j = total j (under_way us ∷ whole_runs us)

-- the quiet periods: before an accepted RESET
abbrev pub before_reset : List Update → Bool
before_reset us = not (any is_reset us)

-- before a run has ended since the last accepted RESET
abbrev pub none_ended : List (List ℤ) → Bool
none_ended [] = true
none_ended (r ∷ rs) = false

abbrev pub before_run : List Update → Bool
before_run us = none_ended (whole_runs us)

-- inside a run: the last accepted update was a PATCH that is not its run's last
abbrev pub inside_run : List Update → Bool
inside_run [] = false
inside_run (u ∷ us) = cond (accepted u) (goes_on u) (inside_run us)

-- from a refused update to the next accepted RESET
abbrev pub spoiled : List Update → Bool
spoiled [] = false
spoiled (u ∷ us) = not (is_reset u) && (not (accepted u) || spoiled us)

-- a table speaks where no quiet period is
abbrev pub speaks : List Update → Bool
speaks us = not (before_reset us || (spoiled us || (before_run us || inside_run us)))

-- the mark (RULES 4.7), by its number: broken (4) after a refusal, else none (0) before a RESET, running (2) inside a
-- run, waiting (1) before a run has ended, settled (3) behind one
abbrev pub mark_after : List Update → ℕ
mark_after us = cond (spoiled us) 4 (cond (before_reset us) 0 (cond (inside_run us) 2 (cond (before_run us) 1 3)))
