-- What the find told decides, and its place goes.
use Rattle.std.proofs.Common.{refl}
use Rattle.std.proofs.lemmas.Result.{err_from_is_err_and}
use Rattle.answer.proofs.NotZero.{not_zero}
use Rattle.namelist.proofs.ChangeLaws.{remove-refused, removable, remove-done}
use Rattle.namelist.proofs.changes.remove.Goals as goal

pub returns-in_err-place : goal.returns-in_err-place
returns-in_err-place c =
    let x = c.args in
    let p = err_from_is_err_and c.from_residual.result c.from_residual.ensures.1 in
    let r = c.in_err-place.field-0.0 in
    rw (p.1, p.2) (remove-refused x.area.now x.name.now _ c.in_err-place.ensures (not_zero r))

pub unlist-requires : goal.unlist-requires
unlist-requires c =
    let x = c.args in
    removable x.area.now x.name.now _ c.in_ok-place.ensures refl

pub returns : goal.returns
returns c =
    let x = c.args in
    remove-done x.area.now x.name.now _ c.in_ok-place.ensures refl _ c.unlist.ensures
