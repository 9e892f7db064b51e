-- The update is read on the line's part of the route area.
use native.Mathlib.Omega.{arith}
use mathlib.Core.Path.{ap, refl, ◌∙◌}
use lib.ListN.{length}
use Rattle.wire.specs.declared.Header.{Header}
use Rattle.station.proofs.ActionLaws.{part-within, update-done}
use Rattle.station.proofs.updates.update_step.Goals as goal

pub overflow_mul-start : goal.overflow_mul-start
overflow_mul-start c = let p = c.requires in
    omega (
      arith,
      part-within c.args.l c.args.room
          (length c.args.route.now) p.eight p.rooms,
    )

pub overflow_add-start : goal.overflow_add-start
overflow_add-start c = let p = c.requires in
    omega (
      arith,
      part-within c.args.l c.args.room
          (length c.args.route.now) p.eight p.rooms,
    )

pub slice_bounds-update-end : goal.slice_bounds-update-end
slice_bounds-update-end c = let p = c.requires in
    omega (arith, p.message.whole, ap (λ (h : Header). h.size) p.message.header)

pub slice_bounds-update-end-2 : goal.slice_bounds-update-end-2
slice_bounds-update-end-2 c = part-within c.args.l c.args.room
    (length c.args.route.now) c.requires.eight c.requires.rooms

pub returns : goal.returns
returns c =
    let a = c.args in
    let p = c.requires in
    let d = update-done a.room a.l a.x a.m.now a.route.now
    (part-within a.l a.room (length a.route.now) p.eight p.rooms)
    a.h p.message.header (c.update-outcome.ensures.result, c.update-outcome.ensures.entries)
    (c.quietly.ensures ∙ rw c.answer.ensures refl) in
    record { action = d.0; area = d.1 }
