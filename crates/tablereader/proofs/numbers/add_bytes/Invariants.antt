-- The entries gone through, and the numbers left added to the entries left, make the whole sum.
use Rattle.tables.proofs.NumberLaws.{Adding}
use Rattle.tablereader.proofs.numbers.add_bytes.Given as goal

abbrev pub invariant-loop-j : goal.invariant-loop-j
invariant-loop-j l =
    Adding 8 l.numbers l.initial.entries l.entries l.j
