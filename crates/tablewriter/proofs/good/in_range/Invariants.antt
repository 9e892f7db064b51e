-- The entries gone through are in range where `good` says so; those left decide.
use mathlib.Core.Path.{◌≡◌}
use mathlib.Core.Bool.{◌&&◌}
use lib.ListN.{drop}
use Rattle.laws.specs.Tests.{all}
use Rattle.tablemessages.specs.Writer.{in_range}
use Rattle.tablewriter.proofs.good.in_range.Given as goal

abbrev pub invariant-loop-e : goal.invariant-loop-e
invariant-loop-e l = all (in_range l.infinity) l.entries ≡ (l.good && all (in_range l.infinity) (drop l.e-index l.entries))
