-- Where the queries are in order, the filter has every number; a number that it lacks is not remembered.
use mathlib.Core.Path.{◌≡◌, sym, ap}
use native.Mathlib.Omega.{arith}
use lib.ListN.{length}
use Rattle.protocol.specs.Memory.{capacity, memory_of, queries_in, lookup_of}
use Rattle.memory.proofs.NumberLaws.{lacks-absent}
use Rattle.memory.proofs.order.survey.Goals as goal

pub returns-then-word-low : goal.returns-then-word-low
returns-then-word-low c =
    let a = c.args in
    let o = c.in_order-order in
    let e : length a.lo.now ≡ 512 = omega arith in
    let known = rw e at (o.ensures.fact c.if-order.true) in
    let qs = queries_in capacity
    (memory_of a.lo.now a.hi.now a.asker.now a.hits.now a.count a.next) in
    let none = lacks-absent _ qs a.low a.high known c.if-word-low.true in
    record {
      order = rw e at o.ensures.result_value;
      known = ap lookup_of (sym none);
    }

pub returns-else-order : goal.returns-else-order
returns-else-order c =
    let a = c.args in
    let e : length a.lo.now ≡ 512 = omega arith in
    record {
      order = rw e at c.in_order-order.ensures.result_value;
      known = rw e at c.find-known.ensures;
    }
