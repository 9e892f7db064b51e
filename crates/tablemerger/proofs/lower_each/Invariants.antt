-- The first i entries are lowered, each by what `taken` gave for its place; the others are as they were.
use Rattle.std.proofs.Common.{◌≡◌, ℕ, ◌<◌, ◌≤◌, min, get_or}
use Rattle.tablemerger.proofs.lower_each.Given as goal

abbrev pub invariant-loop-i : goal.invariant-loop-i
invariant-loop-i g l =
    ((k : ℕ) → k < l.i → (v : ℕ) × goal.F-post g l.taken k v × (get_or l.entries k 0 ≡ min v (get_or l.initial.entries k 0)))
    × ((k : ℕ) → l.i ≤ k → get_or l.entries k 0 ≡ get_or l.initial.entries k 0)
