-- The kept askers are two parts of the slice: the one below `next` and the one at the end.
use mathlib.Core.Bool.{false}
use lib.ListN.{get_or}
use Rattle.protocol.specs.Memory.{asker_fits}
use Rattle.memory.proofs.AskerLaws.{parts-kept}
use Rattle.memory.proofs.askers.askers_fit.Goals as goal

pub returns : goal.returns
returns c =
    let a = c.args in
    rw (c.part_fits-2.ensures, c.part_fits.ensures)
    (parts-kept (asker_fits (λ k. get_or a.live k false)) a.asker.now a.next a.count c.min-first.result
    c.requires.0 c.requires.1 c.min-first.ensures)
