-- The last place settles the table; any other is below the run size, so the next place fits a byte.
use Rattle.std.proofs.Common.{arith}
use borrow.Author.Tests.{eq-eqb, ne_eqb}
use Rattle.tables.specs.Updates.{moved_on}
use Rattle.tables.proofs.PatchFacts.{numbers-length}
use Rattle.tables.proofs.TurnLaws.{patch-fields}
use Rattle.tablereader.specs.Payloads.{payload_of}
use Rattle.tablereader.proofs.turns.moved_on.Goals as goal

pub returns-then-patch : goal.returns-then-patch
unfolding moved_on
returns-then-patch c = rw (eq-eqb _ _ c.if-patch.true) c.at_rest.ensures

pub overflow_add-result : goal.overflow_add-result
overflow_add-result c = let f = patch-fields (payload_of c.args.patch) c.args.patch.good in omega arith

pub overflow_cast-result : goal.overflow_cast-result
overflow_cast-result c = omega (arith, numbers-length c.args.patch.bits c.args.patch.bytes.now)

pub overflow_add-result-2 : goal.overflow_add-result-2
overflow_add-result-2 c = omega (arith, numbers-length c.args.patch.bits c.args.patch.bytes.now)

pub returns : goal.returns
unfolding moved_on
returns c =
    rw (
      ne_eqb _ _ c.if-patch.false,
      c.from.ensures,
      c.number_count.ensures,
      numbers-length c.args.patch.bits c.args.patch.bytes.now,
    )
