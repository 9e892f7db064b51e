-- The part at the end of the slices and then the one below `next`, with one filter.
use Prim.Native.Nat.{◌+◌, ◌-◌}
use mathlib.Core.Path.{◌≡◌}
use native.Mathlib.Omega.{arith}
use lib.ListN.{length}
use borrow.Author.Rules.{rules}
use Rattle.protocol.specs.Memory.{memory_of, query_at}
use Rattle.memory.proofs.NumberLaws.{passed_none, end-twice, end-passed}
use Rattle.memory.proofs.numbers.no_twice.Goals as goal

pub no_twice_in-requires : goal.no_twice_in-requires
no_twice_in-requires c = record {
  from_le_to = (search rules, search rules, search rules);
  passed = passed_none _ c.requires.2;
}

pub returns-else-no_twice_in : goal.returns-else-no_twice_in
returns-else-no_twice_in c =
    let a = c.args in
    let r = c.no_twice_in in
    rw c.if-no_twice_in.false
    (end-twice (query_at (memory_of a.lo.now a.hi.now a.asker.now a.hits.now 0 0)) (length a.lo.now)
    a.next a.count c.min-first.result c.requires.0 c.requires.1 c.min-first.ensures
    (rw c.if-no_twice_in.false at r.ensures))

pub no_twice_in-requires-then-no_twice_in : goal.no_twice_in-requires-then-no_twice_in
no_twice_in-requires-then-no_twice_in c =
    let a = c.args in
    let r = c.no_twice_in in record {
      from_le_to = (search rules, search rules, search rules);
      passed = end-passed (query_at (memory_of a.lo.now a.hi.now a.asker.now a.hits.now 0 0))
          (length a.lo.now)
          a.next a.count c.min-first.result c.requires.0 c.requires.1 c.min-first.ensures _
          (rw c.if-no_twice_in.true at r.ensures);
    }

pub returns-then-no_twice_in : goal.returns-then-no_twice_in
returns-then-no_twice_in c =
    let a = c.args in
    let f = c.min-first.result in
    let e : a.count - f + (a.next - (a.next - f)) ≡ a.count = omega (arith, c.min-first.ensures) in
    rw e at c.no_twice_in-then-no_twice_in.ensures
