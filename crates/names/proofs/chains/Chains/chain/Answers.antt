-- The names before name i have been passed.
use Prim.Native.Nat.{◌<◌}
use mathlib.Core.Path.{◌≡◌, ap, ◌∙◌}
use native.Mathlib.Omega.{arith}
use Rattle.namearea.specs.Area.{name_of, name_at}
use Rattle.namearea.proofs.SpanLaws.{pair-there}
use Rattle.names.proofs.ChainLaws.{next_walkable, told_some, told-none}
use Rattle.names.proofs.ChainLaws.{pass-none, pass-more, pass-met, pass_all, pass-stop}
use Rattle.names.proofs.chains.Chains.chain.Goals.{After-hash-hash}
use Rattle.names.proofs.chains.Chains.chain.Goals as goal

pub loop-i-init : goal.loop-i-init
loop-i-init c = pass-none _ _ _ _ c.requires.chained

-- there is a next name, and so fewer than 512 before it
few : (c : After-hash-hash) → c.loop-i.i < 512
few c = omega (arith, c.loop-i-test.true, c.requires)

own : (c : After-hash-hash) → c.name_of-name.result.now ≡ name_at c.args.area.now c.loop-i.i
own c =
    let a = c.args.area.now in
    c.name_of-name.ensures
    ∙ ap (name_of a) (c.pair_at.ensures ∙ pair-there a c.loop-i.i c.requires.count_value.2 (few c))

pub find-requires : goal.find-requires
find-requires c =
    let w = (goal.at.find-requires c).After-hash-hash in
    record {
      text_from_in_bounds = c.requires.count_value.2;
      hashed = c.hash-hash.ensures;
      walkable = next_walkable c.args.area.now c.loop-i.i _ _ _ c.loop-i.invariant (few w) c.name_of-name.result.now;
    }

pub returns-then-is_some : goal.returns-then-is_some
returns-then-is_some c =
    let w = (goal.at.returns-then-is_some c).After-hash-hash in
    let a = c.args.area.now in
    pass-stop a _ _ _
    (pass-met a c.loop-i.i _ _ _ c.loop-i.invariant (few w) _ (own w) _ c.find.ensures
    (told_some c.find.result c.is_some.ensures c.if-is_some.true)
    (omega (arith, c.requires.count_value.0, c.loop-i-test.true)))

pub loop-i-preserved : goal.loop-i-preserved
loop-i-preserved c =
    let w = (goal.at.loop-i-preserved c).After-hash-hash in
    let a = c.args.area.now in
    let p = c.push.ensures in
    pass-more a c.loop-i.i _ _ _ c.loop-i.invariant (few w) _ (own w) _ c.find.ensures _ c.hash-hash.ensures
    (told-none c.find.result c.is_some.ensures c.if-is_some.false) _ _ _ p.heads p.links p.tags

pub returns : goal.returns
returns c =
    let e : c.loop-i.i ≡ c.args.count = omega arith in
    pass_all c.args.area.now _ _ _ (rw (e ∙ c.requires.count_value.0) at c.loop-i.invariant)
