-- Twice as many numbers as bytes gone through are written, and they are what those bytes unpack to.
use Rattle.tablereader.proofs.UnpackLaws.{Unpacking}
use Rattle.tablereader.proofs.numbers.unpack.Given as goal

abbrev pub invariant-loop-i : goal.invariant-loop-i
invariant-loop-i l = Unpacking l.bytes l.initial.numbers l.numbers l.i
