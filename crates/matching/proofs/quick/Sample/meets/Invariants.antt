-- Where nothing was met so far, none of the places that were passed agrees.
use Rattle.std.proofs.Common.{◌≡◌, false}
use Rattle.matching.specs.Quick.{NoneIn}
use Rattle.matching.proofs.quick.Sample.meets.Given as goal

abbrev pub invariant-loop-i : goal.invariant-loop-i
invariant-loop-i l = l.met ≡ false → NoneIn l.self l.name l.from l.i
