-- The digits that are left are those of m, and the last of them is before place i.
use Rattle.digits.proofs.Spelling.{Spelling}
use lib.ListN.{replicate}
use Rattle.digits.proofs.spell.Given as goal

abbrev pub invariant-loop-m : goal.invariant-loop-m
invariant-loop-m l = Spelling (replicate 5 0) l.n l.bytes l.m l.i

abbrev pub decreases-loop-m : goal.decreases-loop-m
decreases-loop-m l = l.m
