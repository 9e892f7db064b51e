-- The greeting's bytes are those of the text that is put whole.
use Rattle.handshake.specs.Groups.{greeting_bytes}
use Rattle.handshake.proofs.write.write_greeting.Goals as goal

pub returns : goal.returns
unfolding greeting_bytes
returns c = c.put_whole.ensures
