-- The step of the message's type.
use mathlib.Core.Path.{◌≡◌, ap, ◌∙◌}
use lib.ListN.{length}
use Rattle.protocol.specs.declared.Lookup.{Lookup}
use Rattle.protocol.specs.Lines.{line_in}
use Rattle.protocol.specs.Outcomes.{Terms, terms_of}
use Rattle.station.specs.Actions.{quiet_action}
use Rattle.station.proofs.CallLaws.{kind-is, act-ping, act-pong, act-update, act-query, act-hit, act-none, line-is}
use Rattle.station.proofs.act.act.Given.{Over}
use Rattle.station.proofs.act.act.Goals.{Start}
use Rattle.station.proofs.act.act.Goals as goal

-- the record of the message's line, as it is read off the lines
seen : (g : Over) (s : Start g) → s.args.v.line ≡ line_in s.args.lines s.args.l
seen g s = line-is s.args.lines s.args.room s.args.l s.requires.l_bound.1

abbrev known : (g : Over) → Start g → Lookup
known g s = g.K.Known.lookup s.args.known

abbrev terms : (g : Over) → Start g → Terms
terms g s = terms_of s.args.clock s.args.own (length s.args.out.now)

pub ping_step-requires : goal.ping_step-requires
ping_step-requires g c =
    record {
      whole = c.requires.fit.message;
      l_bound = (c.requires.l_bound.0, seen g (goal.at.ping_step-requires g c).Start, c.requires.fit.output);
    }

pub returns-in-Ok-Ping : goal.returns-in-Ok-Ping
returns-in-Ok-Ping g c =
    let a = c.args in
    let s = (goal.at.returns-in-Ok-Ping g c).Start in
    let d = act-ping a.room a.lines a.l (known g s) a.m.now (terms g s) a.route.now a.out.now
    c.requires.fit.message.header (rw c.in-Ok-Ping.field-0-is at c.in-Ok-Ping.ensures) c.ping_step.ensures in
    record { does = d.0; area = d.1 }

pub pong_step-requires : goal.pong_step-requires
pong_step-requires g c = c.requires.fit.message

pub returns-in-Ok-Pong : goal.returns-in-Ok-Pong
returns-in-Ok-Pong g c =
    let a = c.args in
    let s = (goal.at.returns-in-Ok-Pong g c).Start in
    let d = act-pong a.room a.lines a.l (known g s) a.m.now (terms g s) a.route.now a.out.now
    c.requires.fit.message.header (seen g s) (rw c.in-Ok-Pong.field-0-is at c.in-Ok-Pong.ensures) c.pong_step.ensures in
    record { does = d.0; area = d.1 }

pub update_step-requires : goal.update_step-requires
update_step-requires g c =
    record { message = c.requires.fit.message; eight = c.requires.l_bound.0; rooms = c.requires.fit.rooms }

pub returns-in-Ok-RouteUpdate : goal.returns-in-Ok-RouteUpdate
returns-in-Ok-RouteUpdate g c =
    let a = c.args in
    let s = (goal.at.returns-in-Ok-RouteUpdate g c).Start in
    let d = act-update a.room a.lines a.l (known g s) a.m.now (terms g s) a.route.now a.out.now
    c.requires.fit.message.header (seen g s) (rw c.in-Ok-RouteUpdate.field-0-is at c.in-Ok-RouteUpdate.ensures)
    c.update_step.ensures.action c.update_step.ensures.area in
    record { does = d.0; area = d.1 }

pub query_step-requires : goal.query_step-requires
query_step-requires g c =
    record { message = c.requires.fit.message; kind' = kind-is (rw c.in-Ok-Query.field-0-is at c.in-Ok-Query.ensures); output = c.requires.fit.output }

pub returns-in-Ok-Query : goal.returns-in-Ok-Query
returns-in-Ok-Query g c =
    let a = c.args in
    let s = (goal.at.returns-in-Ok-Query g c).Start in
    let d = act-query a.room a.lines a.l (known g s) a.m.now (terms g s) a.route.now a.out.now
    c.requires.fit.message.header (rw c.in-Ok-Query.field-0-is at c.in-Ok-Query.ensures)
    (c.query_step.ensures a.lines c.requires.l_bound.1) in
    record { does = d.0; area = d.1 }

pub hit_step-requires : goal.hit_step-requires
hit_step-requires g c =
    record { message = c.requires.fit.message; kind' = kind-is (rw c.in-Ok-Hit.field-0-is at c.in-Ok-Hit.ensures); output = c.requires.fit.output }

pub returns-in-Ok-Hit : goal.returns-in-Ok-Hit
returns-in-Ok-Hit g c =
    let a = c.args in
    let s = (goal.at.returns-in-Ok-Hit g c).Start in
    let d = act-hit a.room a.lines a.l (known g s) a.m.now (terms g s) a.route.now a.out.now
    c.requires.fit.message.header (seen g s) (rw c.in-Ok-Hit.field-0-is at c.in-Ok-Hit.ensures) c.hit_step.ensures in
    record { does = d.0; area = d.1 }

pub returns-in-Err : goal.returns-in-Err
returns-in-Err g c =
    let a = c.args in
    let s = (goal.at.returns-in-Err g c).Start in
    let d = act-none a.room a.lines a.l (known g s) a.m.now (terms g s) a.route.now a.out.now
    c.requires.fit.message.header (seen g s) c.in-Err.ensures
    (c.quietly.ensures ∙ ap (λ n. quiet_action n a.v.line) c.from.ensures) in
    record { does = d.0; area = d.1 }
