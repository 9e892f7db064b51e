-- The entries at hand, with the names that are left, give what all of them gave of the first entries.
use mathlib.Core.Path.{◌≡◌, refl, sym, ap, ◌∙◌}
use lib.ListN.{length}
use Rattle.namearea.specs.Area.{name_of, name_at}
use Rattle.nametable.specs.Table.{places_of, with_ones}
use Rattle.nametable.proofs.MarkLaws.{ones_length, places_left, names-all, names-on, names-end}
use Rattle.nametable.proofs.mark_names.Goals as goal

pub loop-i-init : goal.loop-i-init
loop-i-init c =
    let x = c.args in
    (refl, ap (λ ps. with_ones ps x.entries.now) (names-all x.size x.count x.area.now))

pub loop-i-preserved : goal.loop-i-preserved
loop-i-preserved c =
    let name = c.name_of in
    let span = c.span_at in
    let l = c.loop-i in
    let x = c.args in
    let less = c.loop-i-test.true in
    let this : name.result.now ≡ name_at x.area.now l.i =
    name.ensures ∙ ap (name_of x.area.now) span.ensures in
    let after = c.mark_text.ensures ∙ ap (λ t. with_ones (places_of x.size t) l.entries) this in (
      ap length after ∙ ones_length (places_of x.size (name_at x.area.now l.i)) l.entries ∙ l.invariant.0,
      ap (with_ones (places_left x.size x.count x.area.now _)) after
          ∙ sym (names-on x.size x.count x.area.now l.i l.entries less)
          ∙ l.invariant.1,
    )

pub shape_of-entries : goal.shape_of-entries
shape_of-entries c = c.loop-i.invariant.0

pub returns : goal.returns
returns c =
    let l = c.loop-i in
    let x = c.args in
    sym (names-end x.size x.count x.area.now l.i l.entries c.loop-i-test.false) ∙ l.invariant.1
