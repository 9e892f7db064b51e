-- No text passed ends behind `end`.
use Prim.Native.Nat.{ℕ, ◌≤◌, ◌<◌, ◌-◌}
use lib.ListN.{length}
use Rattle.namearea.specs.Area.{text_from, span_at, end_of}
use Rattle.namelist.proofs.gaps.text_end.Given as goal

abbrev pub invariant-loop-i : goal.invariant-loop-i
invariant-loop-i l =
    (text_from ≤ l.end) × (l.end ≤ length l.area) × ((k : ℕ) → k < l.i → end_of (span_at l.area k) ≤ l.end)
