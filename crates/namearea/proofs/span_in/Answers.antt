-- Two numbers of four bytes, one behind the other.
use Rattle.namearea.specs.Area.{span_in}
use Rattle.namearea.proofs.span_in.Goals as goal

pub returns : goal.returns
unfolding span_in
returns c = cc
