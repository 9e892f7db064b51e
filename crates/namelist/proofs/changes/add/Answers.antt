-- What the find told decides; where the name is absent, the room does.
use Rattle.std.proofs.Common.{◌≡◌, refl, sym, ap}
use borrow.Author.Tests.{not-true, not-false}
use borrow.Author.Rules.{rules}
use denote.Enum.Bare.{same_true, same_false}
use Rattle.answer.specs.contracts.Refusal.{the_type}
use Rattle.answer.specs.declared.Refusal.TheVariants.{NotFound}
use Rattle.answer.specs.Numbers.{number_of}
use Rattle.answer.proofs.Apart.{tells_apart}
use Rattle.answer.proofs.NotZero.{not_zero}
use Rattle.namelist.proofs.SizeLaws.{good-long}
use Rattle.namelist.proofs.ChangeLaws.{told-absent, add-listed, add-refused, add-full, insertable, add_done}
use Rattle.namelist.proofs.changes.add.Goals.{Else-ne}
use Rattle.namelist.proofs.changes.add.Goals as goal

pub returns-in_default : goal.returns-in_default
returns-in_default c =
    let x = c.args in
    add-listed x.area.now x.name.now _ c.in_default.ensures refl

pub returns-then-ne : goal.returns-then-ne
returns-then-ne c =
    let x = c.args in
    let r = c.in-Err.refusal in
    let other = same_false the_type r NotFound (not-true _ (sym c.if-ne.ensures)) in
    add-refused x.area.now x.name.now _ c.in-Err.ensures (not_zero r) (λ e. other (tells_apart r NotFound e))

-- past its test the name is absent
absent : (c : Else-ne) → number_of c.in-Err.refusal ≡ 10
absent c = ap number_of (same_true the_type (search rules) c.in-Err.refusal NotFound (not-false _ (sym c.if-ne.ensures)))

pub no_room-requires : goal.no_room-requires
no_room-requires c =
    let x = c.args in
    let w = told-absent x.area.now x.name.now _ c.in-Err.ensures (absent (goal.at.no_room-requires c).Else-ne) in
    (record { long = w.long; good = w.good }, (good-long x.name.now w.named).1)

pub returns-then-no_room : goal.returns-then-no_room
returns-then-no_room c =
    let x = c.args in
    add-full x.area.now x.name.now _ c.in-Err.ensures (absent (goal.at.returns-then-no_room c).Else-ne)
    _ refl c.no_room.result c.no_room.ensures
    c.if-no_room.true

pub insert-requires : goal.insert-requires
insert-requires c =
    let x = c.args in
    insertable x.area.now x.name.now _ c.in-Err.ensures (absent (goal.at.insert-requires c).Else-ne)
    _ refl c.no_room.result
    c.no_room.ensures c.if-no_room.false

pub returns : goal.returns
returns c =
    let x = c.args in
    add_done x.area.now x.name.now _ c.in-Err.ensures (absent (goal.at.returns c).Else-ne)
    _ refl c.no_room.result
    c.no_room.ensures c.if-no_room.false _ c.insert.ensures
