-- What is read off each line stands at the line's place.
use Prim.Native.Nat.{ℕ, ◌<◌}
use mathlib.Core.Path.{◌≡◌}
use lib.ListN.{get_or}
use native.Mathlib.Omega.{arith}
use borrow.Author.Rules.{rules}
use Rattle.protocol.specs.Lines.{line_in, nowhere}
use Rattle.pongrings.proofs.WalkLaws.{eight-is}
use Rattle.pongrings.proofs.walk.counts_in.Goals.{After-map}
use Rattle.pongrings.proofs.walk.counts_in.Goals as goal

each : (c : After-map) (k : ℕ) → k < 8 → get_or c.map.result k 0 ≡ (line_in c.args.lines k).pongcount
each c k h = let e = c.map.ensures.items.at k nowhere 0 (omega (arith, h)) in search rules

pub returns : goal.returns
returns c = eight-is (λ k. (line_in c.args.lines k).pongcount) 0 c.map.result (omega arith) (each (goal.at.returns c).After-map)
