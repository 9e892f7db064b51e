-- The message stands at the front of the bytes, or else of the held area once its last bytes are there.
-- Assumes nothing.
use Prim.Native.Nat.{◌+◌}
use native.Mathlib.Omega.{arith}
use mathlib.Core.Path.{sym}
use lib.ListN.{length}
use lib.Seq.{length-take-le}
use Rattle.protocol.specs.Outcomes.{terms_of}
use Rattle.station.proofs.FeedLaws.{rest-long, all-brought, all_held, all-held-long}
use Rattle.station.proofs.FeedLaws.{message-fits-there, taken-brought, taken-held}
use Rattle.station.proofs.feeding.taken.Goals as goal

pub slice_bounds-act-end : goal.slice_bounds-act-end
slice_bounds-act-end g c =
    sym (length-take-le (23 + c.args.h.size) c.args.bytes.now (omega (arith, c.requires.ends.there)))

pub act-a-requires : goal.act-a-requires
act-a-requires g c =
    record {
      l_bound = c.requires.l_bound;
      fit = message-fits-there c.requires.ends (all-brought c.requires.ends c.if-count-eq0.true);
    }

pub returns-then-count-eq0 : goal.returns-then-count-eq0
returns-then-count-eq0 g c =
    let a = c.args in
    taken-brought (g.K.Known.lookup a.known) a.lines a.l (terms_of a.clock a.own (length a.out.now)) a.route.now
    a.out.now c.requires.ends c.if-count-eq0.true (c.act-a.ensures.does, c.act-a.ensures.area) c.whole_feeding.ensures

pub slice_bounds-hold-length : goal.slice_bounds-hold-length
slice_bounds-hold-length g c = sym (rest-long c.requires.ends)

pub slice_bounds-act-end-3 : goal.slice_bounds-act-end-3
slice_bounds-act-end-3 g c =
    sym (all-held-long c.requires.ends c.hold.ensures)

pub act-a-requires-2 : goal.act-a-requires-2
act-a-requires-2 g c =
    record {
      l_bound = c.requires.l_bound;
      fit = message-fits-there c.requires.ends (all_held c.requires.ends c.hold.ensures);
    }

pub overflow_sub-n : goal.overflow_sub-n
overflow_sub-n g c =
    c.requires.ends.begun

pub returns : goal.returns
returns g c =
    let a = c.args in
    taken-held (g.K.Known.lookup a.known) a.lines a.l (terms_of a.clock a.own (length a.out.now)) a.route.now
    a.out.now c.requires.ends c.if-count-eq0.false c.hold.ensures (c.act-a-2.ensures.does, c.act-a-2.ensures.area)
    c.whole_feeding-2.ensures
