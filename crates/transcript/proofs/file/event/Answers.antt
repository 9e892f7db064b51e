-- A good event stands within the file, and has its six bytes.
use Rattle.std.proofs.Common.{arith}
use Rattle.transcript.proofs.Writing.{event-rises, event-within, event-size, event-kind}
use Rattle.transcript.proofs.file.event.Goals as goal

pub slice_bounds-result-count : goal.slice_bounds-result-count
slice_bounds-result-count c = omega (arith, event-rises c.args.file.now c.args.i c.requires.good)

pub slice_bounds-result-start : goal.slice_bounds-result-start
slice_bounds-result-start c = omega (arith, event-rises c.args.file.now c.args.i c.requires.good)

pub slice_bounds-result-end : goal.slice_bounds-result-end
slice_bounds-result-end c = omega (arith, event-within c.args.file.now c.args.i c.requires.good)

pub returns-clause-whole : goal.returns-clause-whole
returns-clause-whole c =
    rw (c.offset.ensures.0, c.offset-2.ensures.0) (event-size c.args.file.now c.args.i c.requires.good)

pub returns-clause-kind : goal.returns-clause-kind
returns-clause-kind c =
    rw (c.offset.ensures.0, c.offset-2.ensures.0) (event-kind c.args.file.now c.args.i c.requires.good)
