-- The tests in the order of the definition.
use mathlib.Core.Path.{sym, ◌∙◌}
use native.Mathlib.Omega.{arith}
use borrow.Author.Tests.{le-leb, lt-leb}
use lib.Dec.{leb}
use Rattle.laws.proofs.Refusals.{or_left}
use Rattle.namearea.specs.Area.{count_in}
use Rattle.namelist.proofs.listing.no_room.Goals as goal

pub returns-then-count_in-ge-MOST_NAMES : goal.returns-then-count_in-ge-MOST_NAMES
returns-then-count_in-ge-MOST_NAMES c =
    le-leb 512 c.count_in.result c.if-count_in-ge-MOST_NAMES.true
    ∙ sym (or_left (leb 512 (count_in c.args.area.now)) _ (le-leb 512 (count_in c.args.area.now) (omega arith)))

pub returns-else-count_in-ge-MOST_NAMES : goal.returns-else-count_in-ge-MOST_NAMES
returns-else-count_in-ge-MOST_NAMES c =
    rw (lt-leb 512 (count_in c.args.area.now) (omega arith), sym c.total_size.ensures.all)
