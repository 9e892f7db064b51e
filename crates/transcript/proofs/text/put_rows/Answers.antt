-- The loop over the events; what each leaves is what the next begins with.
use Rattle.std.proofs.Common.{arith, rules, ◌<◌}
use Rattle.transcript.specs.Files.{count_of}
use Rattle.transcript.proofs.Acting.{age-below}
use Rattle.transcript.proofs.Writing.{rows_start, rows_on, rows_end, here-good}
use Rattle.transcript.proofs.text.put_rows.Goals as goal

pub loop-i-init : goal.loop-i-init
loop-i-init c = let a = c.args in rows_start a.file.now _ a.at _ a.area.now a.route.now a.out.now c.requires

pub event-requires : goal.event-requires
event-requires c =
    let more : c.loop-i.i < count_of c.args.file.now = search rules in record {
      room = omega (arith, c.requires.offsets);
      good = here-good c.loop-i.invariant more;
    }

pub put_row-end-requires : goal.put_row-end-requires
put_row-end-requires c =
    let inv = c.loop-i.invariant in
    let more : c.loop-i.i < count_of c.args.file.now = search rules in (
      omega (arith, c.requires.room, inv.near, inv.rest.size),
      age-below _ _ _ c.act-answered.ensures.result,
    )

pub loop-i-preserved : goal.loop-i-preserved
loop-i-preserved c =
    let more : c.loop-i.i < count_of c.args.file.now = search rules in
    rows_on c.loop-i.invariant more (rw c.event.ensures.value at c.act-answered.ensures.result)
    (rw c.event.ensures.value at c.act-answered.ensures.after)
    c.act-answered.auto.area c.act-answered.auto.route
    c.put_row-end.ensures.text c.put_row-end.ensures.near c.requires.room

pub returns : goal.returns
returns c = rows_end c.loop-i.invariant (search rules)
