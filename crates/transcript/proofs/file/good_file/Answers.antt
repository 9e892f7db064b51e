-- Good offsets leave room for those of all events.
use Rattle.std.proofs.Common.{arith, rules, ◌≡◌, true}
use Rattle.transcript.specs.Files.{good_offsets}
use Rattle.transcript.proofs.Reading.{offsets-room}
use Rattle.transcript.proofs.file.good_file.Goals as goal

pub good_events-requires : goal.good_events-requires
good_events-requires c =
    let g : good_offsets c.args.file.now ≡ true = search rules in
    omega (arith, offsets-room c.args.file.now g)
