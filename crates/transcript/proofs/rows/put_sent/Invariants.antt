-- The lines gone through are listed, and those left make the whole.
use Rattle.transcript.proofs.Listing.{Listing}
use Rattle.transcript.proofs.rows.put_sent.Given as goal

abbrev pub invariant-loop-k : goal.invariant-loop-k
invariant-loop-k l = Listing l.fn.to l.initial.out l.at l.out l.next l.started l.k
