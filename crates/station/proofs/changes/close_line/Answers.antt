-- The refusals, and the record of the line that is closed.
use Prim.Native.Nat.{◌%◌}
use mathlib.Core.Bool.{false}
use Rattle.laws.specs.Tests.{first_of}
use Rattle.protocol.specs.Calls.{closing_rules}
use Rattle.station.proofs.CallLaws.{changed-is}
use Rattle.station.proofs.changes.close_line.Goals as goal

pub returns : goal.returns
returns c =
    let a = c.args in
    changed-is a.lines a.room (a.line % 8) c.read_lines-v.ensures
    (λ order live. first_of (closing_rules order a.line live)) a.order false c.closing-outcome.ensures
    c.changed.ensures
