-- Three writes behind what is listed.
use mathlib.Core.Path.{◌∙◌}
use native.Mathlib.Omega.{arith}
use Rattle.namelist.proofs.SizeLaws.{good-long}
use Rattle.namelist.proofs.InsertLaws.{inserted}
use Rattle.namelist.proofs.listing.insert.Goals as goal

pub overflow_cast-name : goal.overflow_cast-name
overflow_cast-name c =
    omega (arith, good-long c.args.name.now c.requires.named)

pub returns : goal.returns
returns c =
    let q = c.count_in-count.ensures ∙ c.place_for-at.ensures.count in
    inserted c.args.area.now c.count_in-count.result c.args.name.now c.place_for-at.result _ _ _ _
    q (omega (arith, c.requires.few)) c.requires.named c.requires.absent c.place_for-at.ensures c.put_text.ensures
    c.put_pair.ensures c.put_count.ensures
