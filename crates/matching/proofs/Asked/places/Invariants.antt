-- The places before place i have been told.
use Rattle.std.proofs.Common.{◌≡◌, length}
use Rattle.matching.proofs.MatchLaws.{Filling}
use Rattle.matching.proofs.Asked.places.Given as goal

abbrev pub invariant-loop-i : goal.invariant-loop-i
invariant-loop-i l = (length l.marks ≡ 4096) × Filling l.self.kept.now.text.now l.area l.found l.i
