-- The bytes of the 200 reply are those of the text that is put whole.
use Rattle.handshake.specs.Groups.{ok_bytes}
use Rattle.handshake.proofs.write.write_ok.Goals as goal

pub returns : goal.returns
unfolding ok_bytes
returns c = c.put_whole.ensures
