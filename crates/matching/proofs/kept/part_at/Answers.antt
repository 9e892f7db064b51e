-- The bytes behind the start, and of these as many as the span says.
use Rattle.matching.specs.Kept.{part_of}
use Rattle.matching.proofs.kept.part_at.Goals as goal

pub returns : goal.returns
unfolding part_of
returns c = cc
