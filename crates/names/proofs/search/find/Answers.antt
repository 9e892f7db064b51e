-- The refusals in the order of the rules, then the place that the walk told.
use mathlib.Core.Path.{refl, sym, ap, ◌∙◌}
use Rattle.std.proofs.lemmas.Result.{err_from_is_err_and}
use Rattle.answer.specs.Numbers.{number_of}
use Rattle.answer.proofs.NotZero.{not_zero}
use Rattle.namearea.specs.Area.{name_at}
use Rattle.namearea.specs.Calls.{found_of}
use Rattle.names.proofs.SearchLaws.{find-refused, find-bad, find-long, find_walkable, find-told}
use Rattle.names.proofs.search.find.Goals as goal

pub tested-requires : goal.tested-requires
tested-requires c = c.new-chains.ensures (name_at c.args.area.now)

pub returns-in_err-tested : goal.returns-in_err-tested
returns-in_err-tested c =
    let a = c.args in
    let p = err_from_is_err_and c.from_residual.result c.from_residual.ensures.1 in
    let r = c.in_err-tested.field-0.0 in
    rw (p.1, p.2) (find-refused a.area.now a.name.now (number_of r) c.in_err-tested.ensures.answers (not_zero r))

pub returns-then-not-good_name : goal.returns-then-not-good_name
returns-then-not-good_name c =
    let a = c.args in
    find-bad a.area.now a.name.now (sym c.in_ok-tested.ensures.answers)
    (sym c.good_name.ensures ∙ c.if-not-good_name.true)

pub find-requires : goal.find-requires
find-requires c =
    let a = c.args in
    let t = c.in_ok-tested.ensures in
    record {
      text_from_in_bounds = find-long a.area.now (sym t.answers);
      hashed = c.hash.ensures;
      walkable = find_walkable a.area.now a.name.now (sym t.answers) _ _ _ (t.chained refl);
    }

pub returns : goal.returns
returns c =
    let a = c.args in
    let t = c.in_ok-tested.ensures in
    ap found_of c.ok_or.ensures.value
    ∙ find-told a.area.now a.name.now (sym t.answers) _ _ _ (t.chained refl)
    (sym c.good_name.ensures ∙ c.if-not-good_name.false) c.find.result c.find.ensures
