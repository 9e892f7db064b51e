-- What was found up to a line and what is left make the whole; lines before the first of the name add nothing.
use Prim.Native.Nat.{◌-◌}
use lib.ListN.{length}
use Rattle.std.proofs.Common.{is_some}
use Rattle.fields.proofs.FieldLaws.{Left}
use Rattle.fields.proofs.FieldLaws.{Begun}
use Rattle.fields.proofs.search.Given as goal

abbrev pub invariant-loop-next : goal.invariant-loop-next
invariant-loop-next l =
    Left l.s l.name l.next l.before l.mine (is_some l.first) l.total × Begun l.s l.name l.next l.first

abbrev pub decreases-loop-next : goal.decreases-loop-next
decreases-loop-next l = length l.s - l.next
