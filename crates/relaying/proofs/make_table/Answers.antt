-- A refusal leaves the output; else its first bytes become the table.
use mathlib.Core.Path.{sym}
use lib.ListN.{length}
use lib.Seq.{length-take-le}
use Prim.Native.Nat.{◌≤◌}
use Rattle.std.proofs.lemmas.Result.{err_from_is_err_and}
use Rattle.answer.proofs.NotZero.{not_zero}
use Rattle.relaying.proofs.MakeLaws.{left_alone, made, made-fits}
use Rattle.relaying.proofs.make_table.Goals.{In_ok-refusal}
use Rattle.relaying.proofs.make_table.Goals as goal

pub returns-in_err-refusal : goal.returns-in_err-refusal
returns-in_err-refusal c =
    let x = c.args in
    let p = err_from_is_err_and c.from_residual.result c.from_residual.ensures.1 in
    let d =
    left_alone x.order x.room x.lines x.line x.names.now x.size x.out.now x.route.now _
    c.in_err-refusal.ensures (not_zero c.in_err-refusal.field-0.0) in
    record {
      told = rw (p.1, p.2) d.0;
      bytes = d.1;
    }

-- past its test there is room
fits : (c : In_ok-refusal) → let x = c.args in x.size ≤ length x.out.now
fits c =
    let x = c.args in
    made-fits x.order x.room x.lines x.line x.names.now x.size (length x.out.now)
    (length x.route.now) c.in_ok-refusal.ensures

pub slice_bounds-make-end : goal.slice_bounds-make-end
slice_bounds-make-end c = fits (goal.at.slice_bounds-make-end c).In_ok-refusal

pub slice_bounds-make-end-2 : goal.slice_bounds-make-end-2
slice_bounds-make-end-2 c =
    let x = c.args in
    sym (length-take-le x.size x.out.now (fits (goal.at.slice_bounds-make-end-2 c).In_ok-refusal))

pub returns : goal.returns
returns c =
    let x = c.args in
    let d =
    made x.order x.room x.lines x.line x.names.now x.size x.out.now x.route.now
    c.in_ok-refusal.ensures _ c.make.ensures in record {
      told = d.0;
      bytes = d.1;
    }
