-- A PATCH that is refused leaves the part; one that is taken is added to the entries behind those of its run.
use Rattle.std.proofs.Common.{◌≡◌, List, ℕ, ◌+◌, ◌≤◌, length, arith, refl, sym, ap, ◌∙◌, subst, take, length-take}
use Rattle.answer.specs.Numbers.{number_of}
use Rattle.answer.proofs.Apart.{never_zero}
use Rattle.tables.specs.Patch.{numbers}
use Rattle.tables.specs.Tables.{held_in}
use Rattle.tables.specs.Updates.{patch_answer, patched_held}
use Rattle.tables.proofs.TurnLaws.{patch-fields, turn-within}
use Rattle.tables.proofs.UpdateLaws.{Done, Taken, taken, lent-fit, patch-refused, patch-taken}
use Rattle.tablereader.specs.Payloads.{payload_of}
use Rattle.tablereader.proofs.updates.patch.Goals.{After-entries-end}
use Rattle.tablereader.proofs.updates.patch.Goals as goal

pub returns-in-Err : goal.returns-in-Err
returns-in-Err c =
    let x = c.args in
    let d =
    patch-refused x.table.now x.payload.now x.part.now (number_of c.in-Err.refusal) c.in-Err.ensures.answer
    (never_zero c.in-Err.refusal) in
    record { result = c.refuse.ensures ∙ d.result; entries = d.entries }

-- what the PATCH has that is taken
known : (c : After-entries-end) → Taken (held_in c.args.table.now c.args.part.now) (payload_of c.in-Ok.patch)
known c =
    let x = c.args in
    subst (Taken (held_in x.table.now x.part.now)) (sym c.in-Ok.ensures.fields)
    (taken (held_in x.table.now x.part.now) x.payload.now (sym c.in-Ok.ensures.answer))

ends : (c : After-entries-end)
    → length c.entries-end.result.now ≡ (let x = c.args in length (take x.table.now.length x.part.now))
ends c = ap length c.entries-end.ensures

within : (c : After-entries-end)
    → (let x = c.args in x.table.now.nextentry + length (numbers c.in-Ok.patch.bits c.in-Ok.patch.bytes.now)) ≤ length c.entries-end.result.now
within c =
    let x = c.args in
    rw (ends c) (turn-within x.table.now (payload_of c.in-Ok.patch) x.part.now (known c).turn)

pub slice_bounds-add_all-count : goal.slice_bounds-add_all-count
slice_bounds-add_all-count c = omega (arith, within (goal.at.slice_bounds-add_all-count c).After-entries-end)

pub slice_bounds-add_all-start : goal.slice_bounds-add_all-start
slice_bounds-add_all-start c = omega (arith, within (goal.at.slice_bounds-add_all-start c).After-entries-end)

pub add_all-requires : goal.add_all-requires
add_all-requires c =
    let x = c.args in
    record {
      bits_value = (patch-fields (payload_of c.in-Ok.patch) c.in-Ok.patch.good).width;
      entries_value =
          lent-fit x.table.now (payload_of c.in-Ok.patch) x.part.now (length c.entries-end.result.now)
          (ends (goal.at.add_all-requires c).After-entries-end)
          (omega arith) (known (goal.at.add_all-requires c).After-entries-end).range;
    }

pub moved_on-requires : goal.moved_on-requires
moved_on-requires c =
    let x = c.args in
    let b = (goal.at.moved_on-requires c).After-entries-end in
    omega (arith, within b, ends b, length-take x.table.now.length x.part.now)

pub returns : goal.returns
returns c =
    let x = c.args in
    let h = held_in x.table.now x.part.now in
    let d =
    patch-taken x.table.now (payload_of c.in-Ok.patch) x.part.now 0
    (c.in-Ok.ensures.answer ∙ ap (patch_answer h) (sym c.in-Ok.ensures.fields))
    refl (length c.entries-end.result.now) c.add_all.new.entries c.moved_on.result
    (ends (goal.at.returns c).After-entries-end)
    c.add_all.ensures c.moved_on.ensures in
    record { result = rw c.in-Ok.ensures.fields at d.result; entries = rw c.in-Ok.ensures.fields at d.entries }
