-- A keyword that is not kept is put behind the others, and turned to its place.
use Rattle.std.proofs.Common.{◌≡◌, ◌+◌, ◌-◌, arith}
use Rattle.matching.specs.Kept.{part_of, key_at, Joined}
use Rattle.matching.proofs.KeptLaws.{keyword, after, turned-joined}
use Rattle.matching.proofs.kept.Kept.add.Goals.{After-rotate_right}
use Rattle.matching.proofs.kept.Kept.add.Goals as goal

joined : (c : After-rotate_right)
    → let s = c.args.self.now in
    Joined (key_at s.text.now s.spans)
    (key_at s.text.now
    (after s.spans s.count c.in-Err.place record { start = c.args.start; size = c.args.size } c.rotate_right.new.self))
    s.count (keyword s.text.now c.args.start c.args.size) (s.count + 1)
unfolding part_of
joined c =
    let s = c.args.self.now in
    let e : c.args.start + c.args.size - c.args.start ≡ c.args.size = omega arith in
    let ranked = rw e at c.in-Err.ensures in
    turned-joined s.spans s.count c.in-Err.place _ c.rotate_right.new.self (omega (arith, s.few, s.short)) ranked.within
    c.rotate_right.ensures.len c.rotate_right.ensures.by_index s.text.now s.rising ranked

pub invariant_of-self : goal.invariant_of-self
invariant_of-self c =
    let s = c.args.self.now in
    record { short = s.short; few = omega arith; rising = (joined c).rising }

pub returns-in-Err-clause-joined : goal.returns-in-Err-clause-joined
returns-in-Err-clause-joined c = joined (goal.at.returns-in-Err-clause-joined c).After-rotate_right
