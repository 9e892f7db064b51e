-- The mark behind the results, then what stands before them, then the header: each is put where it belongs.
use mathlib.Core.Path.{refl}
use Rattle.answerer.proofs.WriteLaws.{told-sum, around}
use Rattle.answerer.proofs.finish.Goals as goal

pub returns : goal.returns
returns c =
    let x = c.args in
    let fields = c.well_formed.1.1.1.0.1.1 in record {
      told = told-sum x.filled.results x.filled.size;
      bytes = around x.number x.ttl x.filled.results x.filled.size x.from x.out.now
          (fields.1.0.1.0.1)
          (fields.1.1.1.0.1.0.1)
          c.requires.0 c.requires.1
          _ _ _ _ _
          c.copy_onto.ensures refl c.put_head.ensures refl (rw c.into.ensures at c.put_header.ensures);
    }
