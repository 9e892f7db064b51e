-- The entries gone through are near where `good` says so; those left decide.
use mathlib.Core.Path.{◌≡◌}
use mathlib.Core.Bool.{◌&&◌}
use lib.ListN.{drop}
use Rattle.tablemessages.specs.Writer.{base_of, all_near}
use Rattle.tablewriter.proofs.good.all_near.Given as goal

abbrev pub invariant-loop-i : goal.invariant-loop-i
invariant-loop-i l =
    all_near l.new (base_of l.had l.old l.new l.infinity)
    ≡ (l.good && all_near (drop l.i l.new) (drop l.i (base_of l.had l.old l.new l.infinity)))
