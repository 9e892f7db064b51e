-- The writer's tests in their order, and what each that is passed leaves: the messages fit their places, their run and
-- the output.
use Prim.Native.Nat.{◌+◌, ◌-◌, ◌*◌, ◌/◌, ◌≤◌}
use mathlib.Core.Path.{◌≡◌, refl, sym, ap, ◌∙◌}
use mathlib.Core.Bool.{true}
use native.Mathlib.Omega.{arith}
use lib.ListN.{length}
use borrow.Author.Tests.{leb-true, leb-false}
use Rattle.laws.specs.Parts.{over}
use Rattle.std.proofs.lemmas.Result.{err_from_is_err_and}
use Rattle.tablemessages.specs.Writer.{base_of, data_of, parts_of, messages_of, joined}
use Rattle.tablemessages.specs.Steps.{may_write}
use Rattle.tablemessages.proofs.AnswerLaws.{bad-given, too_many, too_short, all-well, refused, accepted, kept, lost}
use Rattle.tablemessages.proofs.AnswerLaws.{bytes-length}
use Rattle.tablemessages.proofs.DataLaws.{base-length}
use Rattle.tablemessages.proofs.GoodLaws.{GoodCall, call-to}
use Rattle.tablemessages.proofs.CallLaws.{data_count, data_few, count_same, plan-fits, all_same}
use Rattle.tablewriter.proofs.write_table.Goals.{After-data_length-data, After-reset_length, In_ok-require}
use Rattle.tablewriter.proofs.write_table.Goals as goal

-- the tables and the data size may be written
may : (c : In_ok-require) → let x = c.args in
    may_write x.w.had x.old.now x.w.was x.new.now x.w.infinity x.w.size ≡ true
may c = sym c.may_write.ensures ∙ kept _ _ _ c.in_ok-require.ensures

good : (c : In_ok-require) → let x = c.args in
    GoodCall x.w.had x.old.now x.w.was x.new.now x.w.infinity x.w.size
good c =
    let x = c.args in
    call-to x.w.had x.old.now x.w.was x.new.now x.w.infinity x.w.size (may c)

-- the run's messages and its data, as the code counts them
count : (c : After-data_length-data)
    → let x = c.args in
    (c.data_length-data.result + x.w.size - 1) / x.w.size
    ≡ length (parts_of x.w.size
    (data_of x.new.now (base_of x.w.had x.old.now x.new.now x.w.infinity)))
count c =
    let x = c.args in
    let a = c.all_near-small in
    count_same x.number (omega arith) x.w.had x.old.now x.w.was x.new.now
    x.w.infinity x.w.size
    (good (goal.at.After-data_length-data c).In_ok-require) a.result a.ensures c.data_length-data.result c.data_length-data.ensures

few : (c : After-data_length-data) → c.data_length-data.result ≤ 65536
few c =
    let x = c.args in
    let a = c.all_near-small in
    rw c.data_length-data.ensures (data_few x.number (omega arith) x.w.had x.old.now x.w.was
    x.new.now x.w.infinity x.w.size
    (good (goal.at.After-data_length-data c).In_ok-require) a.result a.ensures)

bytes : (c : After-data_length-data)
    → let x = c.args in
    c.data_length-data.result
    ≡ length (data_of x.new.now (base_of x.w.had x.old.now x.new.now x.w.infinity))
bytes c =
    let x = c.args in
    let a = c.all_near-small in
    c.data_length-data.ensures ∙ sym (data_count x.number (omega arith) x.w.had x.old.now x.w.was
    x.new.now x.w.infinity x.w.size
    (good (goal.at.After-data_length-data c).In_ok-require) a.result a.ensures)

-- all the messages' bytes, as the code counts them
total : (c : After-reset_length)
    → let x = c.args in
    let d = c.data_length-data.result in
    c.reset_length.result + 28 * ((d + x.w.size - 1) / x.w.size) + d
    ≡ length (joined (messages_of x.number x.w.had x.old.now x.new.now x.w.infinity x.w.size))
total c =
    let x = c.args in
    let e = bytes (goal.at.After-reset_length c).After-data_length-data in
    let k = count (goal.at.After-reset_length c).After-data_length-data in
    let b =
    bytes-length x.w.had x.number x.old.now x.new.now x.w.infinity x.w.size (omega arith)
    (good (goal.at.After-reset_length c).In_ok-require).some in
    omega (arith, c.reset_length.ensures)

pub returns-in_err-require : goal.returns-in_err-require
returns-in_err-require c =
    let x = c.args in
    let p = err_from_is_err_and c.from_residual.result c.from_residual.ensures.1 in
    let no = lost _ _ _ c.in_err-require.ensures in
    let w =
    refused x.number x.w.had x.old.now x.w.was x.new.now x.w.infinity
    x.w.size x.out.now 14
    (bad-given x.number x.w.had x.old.now x.w.was x.new.now x.w.infinity
    x.w.size x.out.now
    (sym c.may_write.ensures ∙ no.0))
    refl in
    record {
      result = rw (p.1, p.2, no.1) w.0;
      bytes = w.1;
    }

pub all_near-small-requires : goal.all_near-small-requires
all_near-small-requires c =
    let x = c.args in
    base-length x.w.had x.old.now x.new.now x.w.infinity (good c).like

pub overflow_add-count : goal.overflow_add-count
overflow_add-count c = omega (arith, few (goal.at.overflow_add-count c).After-data_length-data, (good (goal.at.overflow_add-count c).In_ok-require).most)

pub overflow_sub-count : goal.overflow_sub-count
overflow_sub-count c = omega (arith, (good (goal.at.overflow_sub-count c).In_ok-require).some)

pub nonzero_div-count : goal.nonzero_div-count
nonzero_div-count c = (good (goal.at.nonzero_div-count c).In_ok-require).some

pub returns-in_err-require-2 : goal.returns-in_err-require-2
returns-in_err-require-2 c =
    let x = c.args in
    let p = err_from_is_err_and c.from_residual-in_err-require-2.result c.from_residual-in_err-require-2.ensures.1 in
    let no = lost _ _ _ c.in_err-require-2.ensures in
    let k = count (goal.at.returns-in_err-require-2 c).After-data_length-data in
    let w =
    refused x.number x.w.had x.old.now x.w.was x.new.now x.w.infinity
    x.w.size x.out.now 14
    (too_many x.number x.w.had x.old.now x.w.was x.new.now x.w.infinity
    x.w.size x.out.now
    (may (goal.at.returns-in_err-require-2 c).In_ok-require) (omega (arith, leb-false _ _ no.0)))
    refl in
    record {
      result = rw (p.1, p.2, no.1) w.0;
      bytes = w.1;
    }

pub returns-in_err-require-3 : goal.returns-in_err-require-3
returns-in_err-require-3 c =
    let x = c.args in
    let p = err_from_is_err_and c.from_residual-in_err-require-3.result c.from_residual-in_err-require-3.ensures.1 in
    let no = lost _ _ _ c.in_err-require-3.ensures in
    let few = leb-true _ _ (kept _ _ _ c.in_ok-require-2.ensures) in
    let k = count (goal.at.returns-in_err-require-3 c).After-data_length-data in
    let t = total (goal.at.returns-in_err-require-3 c).After-reset_length in
    let w =
    refused x.number x.w.had x.old.now x.w.was x.new.now x.w.infinity
    x.w.size x.out.now 2
    (too_short x.number x.w.had x.old.now x.w.was x.new.now x.w.infinity
    x.w.size x.out.now
    (may (goal.at.returns-in_err-require-3 c).In_ok-require) (omega (arith, few)) (omega (arith, leb-false _ _ no.0)))
    refl in
    record {
      result = rw (p.1, p.2, no.1) w.0;
      bytes = w.1;
    }

pub put_all-requires : goal.put_all-requires
put_all-requires c =
    let x = c.args in
    let g = good (goal.at.put_all-requires c).In_ok-require in
    let few = leb-true _ _ (kept _ _ _ c.in_ok-require-2.ensures) in
    let room = leb-true _ _ (kept _ _ _ c.in_ok-require-3.ensures) in
    let k = count ((goal.at.put_all-requires c).After-data_length-data) in
    let t = total (goal.at.put_all-requires c).After-reset_length in
    let b = bytes-length x.w.had x.number x.old.now x.new.now x.w.infinity x.w.size
    (omega arith) g.some in
    plan-fits x.number (omega arith) x.w.had x.old.now x.w.was x.new.now
    x.w.infinity x.w.size
    (g) c.all_near-small.result c.all_near-small.ensures _ _ k (omega (arith, few, room))

pub returns : goal.returns
returns c =
    let x = c.args in
    let a = c.all_near-small in
    let few = leb-true _ _ (kept _ _ _ c.in_ok-require-2.ensures) in
    let room = leb-true _ _ (kept _ _ _ c.in_ok-require-3.ensures) in
    let k = count ((goal.at.returns c).After-data_length-data) in
    let t = total (goal.at.returns c).After-reset_length in
    let w =
    accepted x.number x.w.had x.old.now x.w.was x.new.now x.w.infinity
    x.w.size x.out.now _ _
    (all-well x.number x.w.had x.old.now x.w.was x.new.now x.w.infinity
    x.w.size x.out.now
    (may (goal.at.returns c).In_ok-require) (omega (arith, few)) (omega (arith, room))) t
    (c.put_all.ensures
    ∙ ap (λ b. over 0 b x.out.now)
    (all_same x.w.had x.number x.old.now x.new.now x.w.infinity x.w.size a.result _
    a.ensures k)) in
    record {
      result = w.0;
      bytes = w.1;
    }
