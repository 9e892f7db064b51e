-- The writer takes every made table, and the station that reads its bytes holds the table as it was made.
-- Assumes nothing.
use Prim.Native.Nat.{◌≤◌}
use native.Mathlib.Omega.{arith}
use mathlib.Core.Path.{◌≡◌, refl, sym, ap, ◌∙◌}
use mathlib.Core.Bool.{true, false}
use mathlib.Core.List.{List}
use lib.ListN.{length}
use Rattle.laws.proofs.Refusals.{clash, and_intro}
use Rattle.tables.specs.Tables.{Held, good_length, good_infinity}
use Rattle.tables.proofs.Answers.{is-power}
use Rattle.tablemessages.specs.Writer.{good_table}
use Rattle.namearea.specs.Area.{names_in}
use Rattle.nametable.specs.Words.{Sound}
use Rattle.namehistory.proofs.Updates.{only-by-length}
use Rattle.tablemerging.specs.Merging.{made_entries}
use Rattle.tablemerging.proofs.Words.{made-long, made-within}
use Rattle.protocol.specs.Queries.{usual_limit, infinity_written}
use Rattle.roundtrip.proofs.RoundTrip.{station-round_trip}
use Rattle.relaying.specs.Calls.{other_tables}
use Rattle.relaying.specs.Words.{MayCarry, Standing}
use Rattle.relaying.proofs.Answers.{make-exactly, make-leaves, front}
use Rattle.relayed.specs.Settled.{Making, Done, entries_of, infinity_of, WriterTakesMade}
use Rattle.relayed.specs.Settled.{SettlesAsMade}

-- what a call that was answered 0 made
module _ (m : Making) (ok : Done m) where
  abbrev pub others : List Held
  others = other_tables m.state.room m.state.lines m.line m.route

  done : Standing m.state m.line m.route
      × (Sound m.names × (MayCarry m.size × (m.size ≤ length m.out)))
  done = (make-exactly usual_limit m.state m.line m.names m.size (length m.out) m.route).done.0 ok

  pub standing : Standing m.state m.line m.route
  standing = done.0

  pub power : MayCarry m.size
  power = done.1.1.0

  pub infinity-is : infinity_of m ≡ infinity_written usual_limit
  infinity-is = (make-leaves usual_limit m.state m.line m.names m.size m.out m.route).handed ok

  pub entries-are : entries_of m ≡ made_entries (infinity_written usual_limit) m.size (names_in m.names) others
  entries-are = front usual_limit m.state m.line m.names m.size m.out m.route ok

  pub long : length (entries_of m) ≡ m.size
  long = ap length entries-are ∙ made-long (infinity_written usual_limit) m.size (names_in m.names) others

  size-good : good_length (length (entries_of m)) ≡ true
  unfolding good_length
  size-good =
      let p = power in
      let most = p.2 in
      rw long (is-power m.size 2 15 p.0 p.1 (omega arith) p.3)

  good : good_table (entries_of m) (infinity_of m) ≡ true
  unfolding good_table
  good =
      and_intro (good_length (length (entries_of m))) _ size-good
      (rw (infinity-is, entries-are)
      (and_intro (good_infinity (infinity_written usual_limit)) _ refl
      (made-within (infinity_written usual_limit) m.size (omega arith) (names_in m.names) others)))

pub writer_takes-made : WriterTakesMade
writer_takes-made m ok =
    record {
      good = good m ok;
      first = λ old size low high.
          only-by-length false old (entries_of m) (infinity_of m) size (good m ok) (λ e. absurd (clash e refl)) low high;
      next = λ before done same size low high.
          only-by-length true (entries_of before) (entries_of m) (infinity_of m) size (good m ok)
          (λ _. (
            rw (infinity-is before done ∙ sym (infinity-is m ok)) at (good before done),
            long before done ∙ same ∙ sym (long m ok),
          ))
          low high;
    }

pub settles_as_made : SettlesAsMade
settles_as_made m w ok sent =
    station-round_trip w.number w.had w.old w.old_infinity (entries_of m) (infinity_of m) w.size w.room
    w.terms w.state w.line w.route sent.sixteen sent.written (rw (long m ok) sent.room)
    sent.listening sent.outputs sent.before
