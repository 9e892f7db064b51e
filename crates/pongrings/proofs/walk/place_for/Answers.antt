-- Each return has what its tests showed.
use mathlib.Core.Path.{◌≡◌, sym, ◌∙◌}
use native.Mathlib.Omega.{arith}
use borrow.Author.Tests.{le-leb, lt-leb, lt-ltb, le-ltb}
use Rattle.laws.specs.Ring.{ring_place}
use Rattle.pongrings.specs.Ring.{place_for}
use Rattle.pongrings.proofs.WalkLaws.{place_kept}
use Rattle.pongrings.proofs.walk.place_for.Goals.{Else-count-rank, then-not-is_other-via-then-not-is_other}
use Rattle.pongrings.proofs.walk.place_for.Goals.{then-not-is_other-via-else-not-is_other+then-count-gt10}
use Rattle.pongrings.proofs.walk.place_for.Goals.{then-not-is_other-via-else-not-is_other+else-count-gt10+then-next-ge10}
use Rattle.pongrings.proofs.walk.place_for.Goals.{then-not-is_other-via-else-not-is_other+else-count-gt10+else-next-ge10+then-count-rank}
use Rattle.pongrings.proofs.walk.place_for.Goals as goal

pub returns-then-not-is_other-clause-place : goal.returns-then-not-is_other-clause-place
unfolding place_for
returns-then-not-is_other-clause-place c =
    elim c.then-not-is_other.branch [
      | then-not-is_other-via-then-not-is_other w ↦ rw (sym c.is_other.ensures ∙ w.if-not-is_other.true)
      | then-not-is_other-via-else-not-is_other+then-count-gt10 w ↦
          let other = sym c.is_other.ensures ∙ w.if-not-is_other.false in
          simp (other, lt-leb _ _ w.if-count-gt10.true)
      | then-not-is_other-via-else-not-is_other+else-count-gt10+then-next-ge10 w ↦
          let other = sym c.is_other.ensures ∙ w.if-not-is_other.false in
          simp (other, le-leb _ _ w.if-count-gt10.false, le-ltb _ _ w.if-next-ge10.true)
      | then-not-is_other-via-else-not-is_other+else-count-gt10+else-next-ge10+then-count-rank w ↦
          let other = sym c.is_other.ensures ∙ w.if-not-is_other.false in
          simp (other, le-leb _ _ w.if-count-gt10.false, lt-ltb _ _ w.if-next-ge10.false, le-ltb _ _ w.if-count-rank.true)
    ]

-- the rank is kept
kept : (c : Else-count-rank)
    → (let x = c.args in
    place_for x.line x.k x.count x.next x.rank ≡ ring_place 10 x.next x.rank)
kept c =
    place_kept _ _ _ _ _ (sym c.is_other.ensures ∙ c.if-not-is_other.false)
    c.if-count-gt10.false c.if-next-ge10.false c.if-count-rank.false

pub returns-then-rank-next-clause-place : goal.returns-then-rank-next-clause-place
returns-then-rank-next-clause-place c = omega (arith, kept (goal.at.returns-then-rank-next-clause-place c).Else-count-rank)

pub returns-clause-place : goal.returns-clause-place
returns-clause-place c = omega (arith, kept (goal.at.returns-clause-place c).Else-count-rank)
