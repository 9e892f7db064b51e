-- The line is the front, up to its length, of what stands from the place on.
use Rattle.groups.specs.Lines.{line_at}
use Rattle.groups.proofs.lines.line_at.Goals as goal

pub returns : goal.returns
unfolding line_at
returns c = rw (c.front.ensures, c.line_length.ensures, c.after-rest.ensures)
