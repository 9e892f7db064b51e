-- The keywords before byte `at` are kept.
use Prim.Native.Nat.{◌-◌}
use mathlib.Core.Path.{◌≡◌}
use lib.ListN.{length}
use Rattle.matching.proofs.KeptLaws.{Gathering}
use Rattle.matching.proofs.kept.Kept.gather.Given as goal

abbrev pub invariant-loop-cut : goal.invariant-loop-cut
invariant-loop-cut l = (l.self.text.now ≡ l.text) × Gathering l.text l.self.spans l.self.count l.at

abbrev pub decreases-loop-cut : goal.decreases-loop-cut
decreases-loop-cut l = length l.text - l.at
