-- The loop over the events; what each leaves is what the next begins with.
use Rattle.keeper.specs.Kept.{kept_by}
use Rattle.transcript.specs.Files.{count_of}
use Rattle.transcript.proofs.Writing.{Rows}
use Rattle.transcript.proofs.text.put_rows.Given as goal

abbrev pub invariant-loop-i : goal.invariant-loop-i
invariant-loop-i l =
    Rows l.file (count_of l.file) l.at (kept_by l.initial.station) l.initial.route l.initial.out l.area l.route l.out
    (kept_by l.station) l.end l.i
