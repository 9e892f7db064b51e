-- The payload's fields are stored behind the header, and the data is put behind them.
use Rattle.tablemessages.specs.Steps.{data_by}
use Rattle.tablemessages.proofs.MessageLaws.{patch-stored}
use Prim.Native.Nat.{ℕ, ◌-◌}
use mathlib.Core.Path.{◌≡◌, refl, ◌∙◌}
use mathlib.Core.List.{List, [], ◌∷◌}
use lib.Seq.{sets}
use borrow.Rule.Slice.PartMut.{same_len_mid}
use native.Mathlib.Omega.{arith}
use lib.ListN.{length, take, drop, length-set, length-take, length-drop}
use Rattle.tablewriter.proofs.run.put_patch.Goals as goal

pub put_data-requires : goal.put_data-requires
put_data-requires c =
    let p = c.requires in
    (p.0, p.1, simp (length-take, length-drop, length-set) (omega arith))

pub shape_of-part : goal.shape_of-part
shape_of-part c =
    let d = c.put_data in
    let h = c.put_header in
    let x = c.args in
    let all : List ℕ = sets h.new.out 23
    (1 ∷ x.place ∷ x.plan.count ∷ 0 ∷ c.bits_of-bits.result ∷ []) in
    let l : length all ≡ length x.part.now = simp length-set (omega arith) in
    same_len_mid 28 (length all - 28) all d.new.part d.auto.part ∙ l

pub returns : goal.returns
returns c =
    let x = c.args in
    let p = c.requires in
    let d = data_by x.plan x.old.now x.new.now in
    let h = c.put_header in
    let b = c.bits_of-bits in
    patch-stored x.number (omega arith) x.part.now h.new.out x.plan x.place b.result
    x.n (take x.n (drop x.from d)) _
    (simp (length-take, length-drop) (omega arith))
    b.ensures
    p.3
    (rw c.into.ensures at h.ensures)
    _
    refl
    c.put_data.ensures
