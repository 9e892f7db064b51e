-- The tests in the order of the rules.
use Rattle.std.proofs.Common.{ap, not}
use Rattle.names.proofs.SearchLaws.{tested-short, tested-many, tested_misplaced, tested-twice, tested-good}
use Rattle.names.proofs.search.tested.Goals.{then-count-gt-MOST_NAMES-via-then-count-gt-MOST_NAMES}
use Rattle.names.proofs.search.tested.Goals.{then-count-gt-MOST_NAMES-via-else-count-gt-MOST_NAMES+then-not-all_placed}
use Rattle.names.proofs.search.tested.Goals.{then-count-gt-MOST_NAMES-via-else-count-gt-MOST_NAMES+else-not-all_placed+then-not-chain}
use Rattle.names.proofs.search.tested.Goals as goal

pub returns-then-area-lt-TEXT_FROM : goal.returns-then-area-lt-TEXT_FROM
returns-then-area-lt-TEXT_FROM c = tested-short c.args.area.now _ _ _ c.if-area-lt-TEXT_FROM.true

pub returns-then-count-gt-MOST_NAMES : goal.returns-then-count-gt-MOST_NAMES
returns-then-count-gt-MOST_NAMES c =
    let a = c.args.area.now in
    let long = c.if-area-lt-TEXT_FROM.false in
    let count = c.count_in-count in
    elim c.then-count-gt-MOST_NAMES.branch [
      | then-count-gt-MOST_NAMES-via-then-count-gt-MOST_NAMES w ↦
          tested-many a _ _ _ long count.result count.ensures w.if-count-gt-MOST_NAMES.true
      | then-count-gt-MOST_NAMES-via-else-count-gt-MOST_NAMES+then-not-all_placed w ↦
          tested_misplaced a _ _ _ long count.result count.ensures w.if-count-gt-MOST_NAMES.false
          w.all_placed.result w.all_placed.ensures (ap not w.if-not-all_placed.true)
      | then-count-gt-MOST_NAMES-via-else-count-gt-MOST_NAMES+else-not-all_placed+then-not-chain w ↦
          rw w.chains-is
          (tested-twice a _ _ _ long count.result count.ensures w.if-count-gt-MOST_NAMES.false
          w.all_placed.result w.all_placed.ensures (ap not w.if-not-all_placed.false) w.chain.result w.chain.ensures
          (ap not w.if-not-chain.true))
    ]

pub returns : goal.returns
returns c =
    let a = c.args.area.now in
    tested-good a _ _ _ c.if-area-lt-TEXT_FROM.false c.count_in-count.result c.count_in-count.ensures
    c.if-count-gt-MOST_NAMES.false c.all_placed.result c.all_placed.ensures
    (ap not c.if-not-all_placed.false) c.chain.result c.chain.ensures (ap not c.if-not-chain.false)
