-- Each turn takes at least one word, and leaves the areas as long as they were.
use Rattle.std.proofs.Common.{◌-◌, ◌≡◌, ◌≤◌, length}
use Rattle.replay.proofs.run.Given as goal

abbrev pub invariant-loop-k : goal.invariant-loop-k
invariant-loop-k l =
    (length l.held ≡ length l.initial.held) × (length l.out ≡ length l.initial.out)
    × (length l.route ≡ length l.initial.route) × (l.k ≤ 4110)

abbrev pub decreases-loop-k : goal.decreases-loop-k
decreases-loop-k l = 4110 - l.k
