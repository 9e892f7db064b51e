-- Bytes that have no room leave the area; others are copied onto the part from their place on.
-- Assumes nothing.
use Prim.Native.Nat.{◌+◌, ◌-◌}
use native.Mathlib.Omega.{arith}
use lib.ListN.{length}
use Rattle.laws.proofs.Writing.{copied-part}
use borrow.Author.Tests.{le-leb}
use Rattle.intake.proofs.joining.hold.Goals as goal

pub returns-then-bytes-held : goal.returns-then-bytes-held
returns-then-bytes-held c =
    let a = c.args in
    rw (le-leb (a.at + length a.bytes.now) (length a.held.now) (omega arith))
    (copied-part a.at (length a.held.now - a.at) a.bytes.now a.held.now _ (omega arith) (omega arith)
    c.copy_onto.ensures)
