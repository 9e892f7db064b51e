-- The table of four entries (RULES 18) through the station, by computation: written from none and taken, then written
-- from it and taken; and the premises of the round trip, met.
-- Assumes nothing.
use Prim.Native.Nat.{ℕ}
use native.Mathlib.Omega.{arith}
use mathlib.Core.Path.{◌≡◌, refl}
use mathlib.Core.Bool.{true, false}
use mathlib.Core.List.{List, [], ◌∷◌, map}
use lib.ListN.{replicate}
use Rattle.laws.specs.Ring.{kept_places}
use Rattle.wire.specs.Header.{message}
use Rattle.tables.specs.Tables.{good_length, table_in_order}
use Rattle.tables.specs.Patch.{numbers, packed, added, all_fit}
use Rattle.tables.specs.Updates.{update_answer, updated, good_reset, good_patch, in_turn, in_range, reset_by, moved_on}
use Rattle.tables.specs.Updates.{patch_by, broken_by}
use Rattle.tablemessages.specs.Writer.{all_near, raws, data_of, chunks, run_from, messages_of, joined, good_table}
use Rattle.tablemessages.specs.Writer.{writer_answer, writer_bytes, writer_result, writer_out}
use Rattle.tablemessages.specs.RoundTrip.{settled_as}
use Rattle.protocol.specs.Memory.{queries_in, no_twice, memory_in_order}
use Rattle.protocol.specs.Lines.{stored_pongs}
use Rattle.protocol.specs.State.{Station, held_at}
use Rattle.protocol.specs.Order.{line_in_order, in_order}
use Rattle.protocol.specs.Outcomes.{Terms}
use Rattle.protocol.specs.Calls.{fresh, opening, early, update_step, by_type, arriving}
use Rattle.protocol.specs.Kept.{Kept}
use Rattle.protocol.proofs.Kept.{fresh_in_order, order-kept}
use Rattle.roundtrip.specs.Feeding.{Fed, fed_by, fed}
use Rattle.roundtrip.specs.RoundTrip.{Listening, Exchanged}
use Rattle.roundtrip.proofs.RoundTrip.{station-round_trip}

number : List ℕ
number = replicate 16 7

new : List ℕ
new = 8 ∷ 1 ∷ 8 ∷ 1 ∷ []

next : List ℕ
next = 1 ∷ 1 ∷ 8 ∷ 8 ∷ []

terms : ℕ → Terms
terms i =
    record {
      clock = i;
      own = record { port = 6346; address = 127 ∷ 0 ∷ 0 ∷ 1 ∷ []; files = 0; kilobytes = 0; calls = true };
      out = 4119;
    }

-- line 1 of a fresh station is open; three bytes of the route area are no line's
station : Station
station = (opening (fresh 35).state 1).state

area : List ℕ
area = replicate 35 9

first : Fed
first = fed terms 1 station area (joined (messages_of number false [] new 8 1))

second : Fed
second = fed terms 1 first.state first.area (joined (messages_of number true new next 8 2))

-- what the two come to
record Taken : Type 0 where
  answers : map (λ o. o.answer) first.outcomes ≡ 0 ∷ 0 ∷ 0 ∷ []
  held : held_at first.state 1 first.area ≡ settled_as new 8
  used : second.used ≡ 30
  behind : second.area ≡ 9 ∷ 9 ∷ 9 ∷ 9 ∷ 1 ∷ 1 ∷ 8 ∷ 8 ∷ replicate 27 9

taken : Taken
unfolding number new next terms station area first second fed_by joined messages_of all_near raws data_of chunks run_from
    message packed kept_places good_length table_in_order numbers added all_fit update_answer updated good_reset good_patch
    in_turn in_range reset_by moved_on patch_by broken_by queries_in no_twice memory_in_order stored_pongs line_in_order in_order
    fresh opening early update_step by_type arriving
taken = record { answers = refl; held = refl; used = refl; behind = refl }

-- a station that listens
listening : Listening station 1 area
unfolding station area fresh opening in_order memory_in_order line_in_order table_in_order queries_in no_twice kept_places
    stored_pongs
listening =
    let f = fresh_in_order 35 in
    let k : Kept (fresh 35).state station = (order-kept (fresh 35).state f.sized f.order).opens 1 in
    record { sized = k.sized; order = k.order; line = omega arith; live = refl; large = omega arith; room = refl }

met : Exchanged station 1 area new 8 3 87 first
unfolding number new terms area first messages_of all_near raws data_of chunks run_from message packed writer_answer
    good_table joined good_length writer_out writer_bytes writer_result
met =
    station-round_trip number false [] 0 new 8 1 (replicate 87 0) terms station 1 area refl refl
    (omega (arith, listening.room)) listening (λ i. omega arith) (λ e. absurd (mathlib.Core.Bool.false≢true e))
