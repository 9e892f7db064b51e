-- By the event's kind: what the call ensures.
use Rattle.std.proofs.Common.{◌≡◌, rules}
use Rattle.laws.proofs.Parts.{part_tail}
use Rattle.keeper.specs.Kept.{kept_by}
use Rattle.protocol.specs.Calls.{opening, closing}
use Rattle.transcript.specs.Files.{kind_of, line_of}
use Rattle.transcript.proofs.Acting.{unsent, opening-quiet, closing-quiet, message-answered, message-route}
use Rattle.transcript.proofs.Acting.{act_open, act-close, act-message}
use Rattle.transcript.proofs.events.act.Goals as goal

pub returns-in-Ok-Open : goal.returns-in-Ok-Open
returns-in-Ok-Open c =
    let a = c.args in
    let s = kept_by a.station.now in
    let l = c.from-line.result in
    let f : l ≡ line_of a.event.now = search rules in
    let k : kind_of a.event.now ≡ 0 = search rules in
    let d =
    act_open s a.route.now a.event.now l f k
    (unsent (opening s l) c.open.ensures (opening-quiet s l) c.quiet.ensures) in record {
      result = d.0;
      after = d.1;
    }

pub returns-in-Ok-Close : goal.returns-in-Ok-Close
returns-in-Ok-Close c =
    let a = c.args in
    let s = kept_by a.station.now in
    let l = c.from-line.result in
    let f : l ≡ line_of a.event.now = search rules in
    let k : kind_of a.event.now ≡ 1 = search rules in
    let d =
    act-close s a.route.now a.event.now l f k
    (unsent (closing s l) c.close.ensures (closing-quiet s l) c.quiet-in-Ok-Close.ensures) in record {
      result = d.0;
      after = d.1;
    }

pub returns-in-Ok-Message : goal.returns-in-Ok-Message
returns-in-Ok-Message c =
    let a = c.args in
    let s = kept_by a.station.now in
    let l = c.from-line.result in
    let f : l ≡ line_of a.event.now = search rules in
    let k : kind_of a.event.now ≡ 2 = search rules in
    let clock = c.little4-clock.result in
    let met = c.message-report.ensures in
    let d =
    act-message s a.route.now a.event.now l f k (rw part_tail at c.little4-clock.ensures) (part_tail 6 a.event.now)
    (message-answered s l clock _ a.area.now a.route.now c.requires.output met)
    (message-route s l clock _ a.area.now a.route.now c.requires.output met) in record {
      result = d.0;
      after = d.1;
    }
