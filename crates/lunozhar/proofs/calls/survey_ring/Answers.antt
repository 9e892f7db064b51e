-- The ring is surveyed given the lines that are open.
use mathlib.Core.Path.{ap, ◌∙◌}
use mathlib.Core.Bool.{Bool, false}
use mathlib.Core.List.{List}
use lib.ListN.{get_or}
use Rattle.protocol.specs.Memory.{memory_of, memory_in_order, capacity}
use Rattle.lunozhar.proofs.calls.survey_ring.Goals as goal

pub returns : goal.returns
returns c =
    let a = c.args in
    let q = memory_of a.lo.now a.hi.now a.asker.now a.hits.now a.count a.next in record {
      order = c.survey.ensures.order
          ∙ ap (λ (live : List Bool). memory_in_order capacity (λ k. get_or live k false) q) c.lives-live.ensures;
      known = c.survey.ensures.known;
    }
