-- The kept counts are two parts of the slice: the one below `next` and the one at the end.
use Rattle.protocol.specs.Memory.{hits_fit}
use Rattle.memory.proofs.AskerLaws.{parts-kept}
use Rattle.memory.proofs.hits.hits_fit.Goals as goal

pub returns : goal.returns
returns c =
    let a = c.args in
    rw (c.part_fits-2.ensures, c.part_fits.ensures)
    (parts-kept hits_fit a.hits.now a.next a.count c.min-first.result
    c.requires.0 c.requires.1 c.min-first.ensures)
