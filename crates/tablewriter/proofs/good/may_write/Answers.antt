-- The tests in their order; what each that is passed leaves.
use mathlib.Core.Path.{sym, ◌∙◌}
use borrow.Author.Tests.{lt-leb, le-leb, eq-eqb, ne_eqb}
use Rattle.tablemessages.specs.Steps.{may_write}
use Rattle.tablewriter.proofs.good.may_write.Goals as goal

pub returns-then-size-lt1 : goal.returns-then-size-lt1
unfolding may_write
returns-then-size-lt1 c = rw (lt-leb 1 _ c.if-size-lt1.true)

pub returns-then-size-gt-MOST_DATA : goal.returns-then-size-gt-MOST_DATA
unfolding may_write
returns-then-size-gt-MOST_DATA c = rw (le-leb 1 _ c.if-size-lt1.false, lt-leb _ 4091 c.if-size-gt-MOST_DATA.true)

pub returns-then-not-had : goal.returns-then-not-had
unfolding may_write
returns-then-not-had c =
    let a = le-leb 1 _ c.if-size-lt1.false in
    let b = le-leb _ 4091 c.if-size-gt-MOST_DATA.false in
    let h = c.if-not-had.true in
    rw (a, b, h) c.good_table.ensures

pub returns-then-old-new : goal.returns-then-old-new
unfolding may_write
returns-then-old-new c =
    let a = le-leb 1 _ c.if-size-lt1.false in
    let b = le-leb _ 4091 c.if-size-gt-MOST_DATA.false in
    let h = c.if-not-had.false in
    rw (a, b, h, ne_eqb _ _ c.if-old-new.true)

pub returns-then-was-infinity : goal.returns-then-was-infinity
unfolding may_write
returns-then-was-infinity c =
    let a = le-leb 1 _ c.if-size-lt1.false in
    let b = le-leb _ 4091 c.if-size-gt-MOST_DATA.false in
    let h = c.if-not-had.false in
    rw (a, b, h, eq-eqb _ _ c.if-old-new.false, ne_eqb _ _ c.if-was-infinity.true)

pub returns-then-not-good : goal.returns-then-not-good
unfolding may_write
returns-then-not-good c =
    let a = le-leb 1 _ c.if-size-lt1.false in
    let b = le-leb _ 4091 c.if-size-gt-MOST_DATA.false in
    let h = c.if-not-had.false in
    let l = eq-eqb _ _ c.if-old-new.false in
    let i = eq-eqb _ _ c.if-was-infinity.false in
    let o = sym c.good_table-good.ensures ∙ c.if-not-good.true in
    rw (a, b, h, l, i, o)

pub returns : goal.returns
unfolding may_write
returns c =
    let a = le-leb 1 _ c.if-size-lt1.false in
    let b = le-leb _ 4091 c.if-size-gt-MOST_DATA.false in
    let h = c.if-not-had.false in
    let l = eq-eqb _ _ c.if-old-new.false in
    let i = eq-eqb _ _ c.if-was-infinity.false in
    let o = sym c.good_table-good.ensures ∙ c.if-not-good.false in
    rw (a, b, h, l, i, o) c.good_table-2.ensures
