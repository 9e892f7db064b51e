use Rattle.std.proofs.Common.{rules, arith, ◌≡◌, true, false, refl}
use Rattle.tables.specs.Updates.{good_patch}
use Rattle.tablereader.proofs.patch.Patch.read.Goals as goal
use Rattle.tablereader.proofs.patch.Patch.read.Goals.{in_default-via-then-payload-lt5, in_default-via-in-1+then-place-ge1+then-place-size+else-good_bits, in_default-via-in-1+then-place-ge1+else-place-size, in_default-via-in-1+else-place-ge1, in_default-via-else-payload-lt5+in-1+in_default-1, in_default-via-else-payload-lt5+in_default-1}

pub invariant_of-result : goal.invariant_of-result
unfolding good_patch
invariant_of-result c = search rules

pub returns-in_default : goal.returns-in_default
unfolding good_patch
returns-in_default c = (refl, elim c.in_default.branch [ in_default-via-then-payload-lt5 w ↦ search rules | in_default-via-in-1+then-place-ge1+then-place-size+else-good_bits w ↦ search rules | in_default-via-in-1+then-place-ge1+else-place-size w ↦ search rules | in_default-via-in-1+else-place-ge1 w ↦ search rules | in_default-via-else-payload-lt5+in-1+in_default-1 w ↦ search rules | in_default-via-else-payload-lt5+in_default-1 w ↦ search rules ])
