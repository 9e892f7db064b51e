-- What is left of the keyword, joined to what was joined already, is the whole.
use Prim.Native.Nat.{ℕ, ◌^◌, ◌<◌}
use mathlib.Core.Path.{◌≡◌}
use mathlib.Core.List.{map}
use lib.ListN.{length, get_or}
use Rattle.ascii.specs.Text.{lower}
use Rattle.keywords.specs.Hash.{xor32, word}
use Rattle.keywords.specs.Folding.{folded}
use Rattle.keywords.proofs.hash.joined.Given as goal

abbrev pub invariant-loop-rest : goal.invariant-loop-rest
invariant-loop-rest l =
    (xor32 (folded l.chunks l.marks) (word (map lower l.rest)) ≡ word (map lower l.keyword)) × (l.chunks < 2 ^ 32)
    × (l.marks < 2 ^ 32) × ((i : ℕ) → get_or l.rest i 0 < 256)

abbrev pub decreases-loop-rest : goal.decreases-loop-rest
decreases-loop-rest l = length l.rest
