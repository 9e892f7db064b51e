-- The test of a range of numbers.
use Rattle.std.proofs.Common.{rules, tests, arith, refl, ◌∙◌}
use Rattle.std.proofs.lemmas.Iterator.{YieldsList-from_range}
use Rattle.std.proofs.lemmas.Iterator.Search.{all_from_yields_List}
use Rattle.transcript.specs.Files.{good_event}
use Rattle.transcript.proofs.Reading.{all_in_range}
use Rattle.transcript.proofs.file.good_events.Goals as goal

pub returns : goal.returns
returns c =
    all_from_yields_List (good_event c.args.file.now) _ _ c.all.result c.all.ensures.ran
    (YieldsList-from_range 0 c.args.n c.args.n refl (omega arith)) (λ x b q k. search (rules, tests))
    ∙ all_in_range (good_event c.args.file.now) c.args.n 0
