-- The place that the iterator finds is the length of what stands before the byte.
use Prim.Native.Nat.{◌+◌}
use mathlib.Core.Bool.{cond}
use mathlib.Core.Path.{◌≡◌, sym, ap, ◌∙◌}
use native.Mathlib.Omega.{arith}
use lib.Dec.{ltb}
use lib.ListN.{length, take, drop, drop_of_length-le}
use Rattle.xtry.specs.Pairs.{up_to}
use lib.Seq.{take_all, drop-length}
use borrow.Author.Rules.{rules}
use Rattle.std.proofs.Common.{eqb, tests, Some, None}
use Rattle.std.proofs.lemmas.Iterator.{YieldsList-from_slice}
use Rattle.std.proofs.lemmas.Iterator.Search.{position_from_yields_List}
use Rattle.std.specs.List.{position_or_len}
use Rattle.laws.proofs.Parts.{part_tail}
use Rattle.xtry.proofs.Cuts.{cut-found, cut-whole, up_to-take, past-drop}
use Rattle.xtry.proofs.read.cut.Goals.{After-position}
use Rattle.xtry.proofs.read.cut.Goals as goal

found : (c : After-position) → c.position.result ≡ cond
    (ltb (position_or_len (λ b. eqb b c.args.s) c.args.text.now) (length c.args.text.now))
    (Some (position_or_len (λ b. eqb b c.args.s) c.args.text.now)) None
found c =
    position_from_yields_List (λ y. eqb y c.args.s) _ _ c.position.result c.position.ensures.ran
    (YieldsList-from_slice c.args.text.now cc) (λ y b q k. search (rules, tests))

pub returns-in-Some-clause-before : goal.returns-in-Some-clause-before
returns-in-Some-clause-before c =
    let x = c.args in
    let e = cut-found x.s x.text.now _ _ (found (goal.at.returns-in-Some-clause-before c).After-position) c.in-Some.is in
    ap (λ k. take k x.text.now) e ∙ sym (up_to-take x.s x.text.now)

pub returns-in-Some-clause-behind : goal.returns-in-Some-clause-behind
returns-in-Some-clause-behind c =
    let x = c.args in
    let e = cut-found x.s x.text.now _ _ (found (goal.at.returns-in-Some-clause-behind c).After-position) c.in-Some.is in
    part_tail (c.in-Some.end + 1) x.text.now ∙ ap (λ k. drop (k + 1) x.text.now) e ∙ past-drop x.s x.text.now

pub returns-in-None-clause-before : goal.returns-in-None-clause-before
returns-in-None-clause-before c =
    let x = c.args in
    let h = cut-whole x.s x.text.now _ (found (goal.at.returns-in-None-clause-before c).After-position) c.in-None.is in
    sym (up_to-take x.s x.text.now ∙ take_all (length (up_to x.s x.text.now)) x.text.now h)

pub returns-in-None-clause-behind : goal.returns-in-None-clause-behind
returns-in-None-clause-behind c =
    let x = c.args in
    let h = cut-whole x.s x.text.now _ (found (goal.at.returns-in-None-clause-behind c).After-position) c.in-None.is in
    part_tail (length x.text.now) x.text.now ∙ drop-length x.text.now
    ∙ sym (drop_of_length-le x.text.now (omega arith)) ∙ past-drop x.s x.text.now
