-- The refusals, and the record of the line that is opened.
use Prim.Native.Nat.{◌%◌}
use mathlib.Core.Bool.{true}
use Rattle.laws.specs.Tests.{first_of}
use Rattle.protocol.specs.Calls.{opening_rules}
use Rattle.station.proofs.CallLaws.{changed-is}
use Rattle.station.proofs.changes.open_line.Goals as goal

pub returns : goal.returns
returns c =
    let a = c.args in
    changed-is a.lines a.room (a.line % 8) c.read_lines-v.ensures
    (λ order live. first_of (opening_rules order a.line live)) a.order true c.opening-outcome.ensures
    c.changed.ensures
