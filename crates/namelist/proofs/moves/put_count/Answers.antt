-- Four bytes at the front.
use mathlib.Core.Path.{refl, ◌∙◌}
use native.Mathlib.Omega.{arith}
use Rattle.wire.proofs.NumberLaws.{bytes-four}
use Rattle.laws.specs.Bytes.{little_bytes}
use Rattle.namelist.proofs.MoveLaws.{count-put, part-put}
use Rattle.namelist.proofs.moves.put_count.Goals as goal

pub returns : goal.returns
returns c =
    let x = c.args in
    count-put x.area.now x.n _ c.requires (omega arith)
    (part-put 0 4 (little_bytes 4 x.n) x.area.now _ refl
    (c.copy_from_slice.ensures.after ∙ c.to_le_bytes.ensures ∙ bytes-four x.n))
