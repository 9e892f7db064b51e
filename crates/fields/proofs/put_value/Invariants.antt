-- What was written and what is still to be written make the whole value.
use Prim.Native.Nat.{◌-◌}
use lib.ListN.{length}
use Rattle.fields.proofs.FieldLaws.{Writing}
use Rattle.fields.proofs.put_value.Given as goal

abbrev pub invariant-loop-at : goal.invariant-loop-at
invariant-loop-at l =
    Writing l.s l.name l.value.length l.initial.out l.next l.mine l.there l.at l.out

abbrev pub decreases-loop-at : goal.decreases-loop-at
decreases-loop-at l = length l.s - l.next
