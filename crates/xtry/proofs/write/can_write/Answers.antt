-- At most 32 pairs are all in use, and the library's test of them is the definition's.
use mathlib.Core.Path.{◌∙◌, sym, ap}
use borrow.Author.Rules.{rules}
use borrow.Author.Tests.{le-leb}
use Rattle.std.proofs.Common.{tests}
use Rattle.std.proofs.lemmas.Iterator.{YieldsList-from_slice}
use Rattle.std.proofs.lemmas.Iterator.Search.{all_from_yields_List}
use Rattle.laws.specs.Tests.{all}
use Rattle.xtry.specs.Writing.{has_port, can_write}
use Rattle.xtry.proofs.Listing.{all-is}
use Rattle.xtry.proofs.write.can_write.Goals as goal

pub returns-then-pairs-le32 : goal.returns-then-pairs-le32
unfolding can_write
returns-then-pairs-le32 c =
    let h =
    all_from_yields_List has_port _ _ c.all.result c.all.ensures.ran (YieldsList-from_slice c.in_use.result.now cc)
    (λ y b q k. search (rules, tests)) in
    rw (le-leb c.args.pairs.count 32 c.if-pairs-le32.true)
    (h ∙ sym (all-is has_port c.in_use.result.now) ∙ ap (all has_port) c.in_use.ensures.value)
