-- The bytes behind the offset, and of them as many as the length says.
use Rattle.namearea.proofs.name_of.Goals as goal

pub returns : goal.returns
returns c = cc
