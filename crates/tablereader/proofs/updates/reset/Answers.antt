-- A RESET that is refused leaves the part; one that passes fills as many entries as it names.
use Rattle.std.proofs.Common.{◌≡◌, ◌≤◌, arith, refl, sym, ◌∙◌, length, length-take, replicate, take}
use Rattle.laws.proofs.Over.{over-fill}
use Rattle.tables.proofs.UpdateLaws.{ResetFields, reset-fields, reset-refused, reset-taken}
use Rattle.tablereader.proofs.updates.reset.Goals.{In-Ok}
use Rattle.tablereader.proofs.updates.reset.Goals as goal

pub returns-in-Err : goal.returns-in-Err
returns-in-Err c =
    let x = c.args in
    let d = reset-refused x.table.now x.payload.now x.part.now c.in-Err.ensures.1 in
    record { result = c.refuse.ensures ∙ rw c.in-Err.ensures.0 d.result; entries = d.entries }

-- the RESET fits the part
fits : (c : In-Ok) → c.in-Ok.reset.length ≤ length c.args.part.now
fits c =
    let f = reset-fields (length c.args.part.now) c.args.payload.now c.in-Ok.ensures.0 in
    omega (arith, f.within, c.in-Ok.ensures.1)

pub slice_bounds-fill-end : goal.slice_bounds-fill-end
slice_bounds-fill-end c = fits (goal.at.slice_bounds-fill-end c).In-Ok

pub slice_bounds-fill-end-2 : goal.slice_bounds-fill-end-2
slice_bounds-fill-end-2 c =
    omega (arith, fits (goal.at.slice_bounds-fill-end-2 c).In-Ok, length-take c.in-Ok.reset.length c.args.part.now)

pub returns : goal.returns
returns c =
    let x = c.args in
    let n = c.in-Ok.reset.length in
    let m : length (take n x.part.now) ≡ n =
    omega (arith, fits (goal.at.returns c).In-Ok, length-take n x.part.now) in
    let filled = rw m at (c.fill.ensures.after (λ y e. e)) in
    let d =
    reset-taken x.table.now x.payload.now x.part.now c.in-Ok.ensures.0 n c.at_rest.result _ c.in-Ok.ensures.1
    (c.at_rest.ensures ∙ rw c.in-Ok.ensures.2 refl)
    (rw (filled, c.in-Ok.ensures.2) (over-fill n _ x.part.now)) in
    record { result = d.result; entries = d.entries }
