-- The places from `at` to `from` have been passed: none of their names is the one looked for.
use Prim.Native.Nat.{◌+◌, ◌-◌}
use mathlib.Core.Path.{◌≡◌, sym, ◌∙◌}
use native.Mathlib.Omega.{arith}
use Rattle.namearea.specs.Area.{name_at}
use Rattle.names.proofs.WalkLaws.{walk_start, walk_comparable}
use Rattle.names.proofs.WalkLaws.{walk_end, walk-found, walk-less, walk-on}
use Rattle.names.proofs.chains.Chains.walk.Goals as goal

pub loop-at-init : goal.loop-at-init
loop-at-init c =
    let a = c.args in
    walk_start (name_at a.area.now) a.self.now.links a.self.now.tags a.from a.name.now a.tag
    c.requires.walkable

pub is_at-requires : goal.is_at-requires
is_at-requires c =
    let a = c.args in
    let known =
    walk_comparable (name_at a.area.now) a.self.now.links a.self.now.tags a.from a.name.now a.tag
    c.requires.walkable c.loop-at.at c.loop-at.invariant (omega arith) in
    record {
      text_from_in_bounds = c.requires.text_from_in_bounds;
      comparable = known;
    }

pub returns-then-is_at : goal.returns-then-is_at
returns-then-is_at c =
    let a = c.args in
    let k : c.loop-at.at - 1 + 1 ≡ c.loop-at.at = omega arith in
    rw k
    (walk-found (name_at a.area.now) a.self.now.links a.self.now.tags a.from a.name.now a.tag
    c.requires.walkable c.loop-at.at c.loop-at.invariant (omega arith) (sym c.is_at.ensures ∙ c.if-is_at.true))

pub bounds-self-place : goal.bounds-self-place
bounds-self-place c =
    omega (arith, c.loop-at.invariant.low, c.requires.walkable.few)

pub loop-at-smaller : goal.loop-at-smaller
loop-at-smaller c =
    let a = c.args in
    rw c.from-at.ensures
    (walk-less (name_at a.area.now) a.self.now.links a.self.now.tags a.from a.name.now a.tag
    c.requires.walkable c.loop-at.at c.loop-at.invariant (omega arith))

pub loop-at-preserved : goal.loop-at-preserved
loop-at-preserved c =
    let a = c.args in
    rw c.from-at.ensures
    (walk-on (name_at a.area.now) a.self.now.links a.self.now.tags a.from a.name.now a.tag
    c.requires.walkable c.loop-at.at c.loop-at.invariant (omega arith) (sym c.is_at.ensures ∙ c.if-is_at.false))

pub returns : goal.returns
returns c =
    let a = c.args in
    walk_end (name_at a.area.now) a.self.now.links a.self.now.tags a.from a.name.now a.tag
    c.requires.walkable c.loop-at.at c.loop-at.invariant (omega arith)
