-- The pairs gone through are written, and those left make the whole.
use Rattle.xtry.proofs.Listing.{Listing}
use Rattle.xtry.proofs.write.write_pairs.Given as goal

abbrev pub invariant-loop-p : goal.invariant-loop-p
invariant-loop-p l = Listing l.listed l.first l.initial.out l.out l.to l.lead l.p-index
