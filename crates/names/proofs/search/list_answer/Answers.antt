-- The test, with chains of its own.
use Rattle.namearea.specs.Area.{name_at}
use Rattle.names.proofs.search.list_answer.Goals as goal

pub tested-requires : goal.tested-requires
tested-requires c = c.new.ensures (name_at c.args.area.now)
