-- A ring is in order where it fits, its askers and counts of hits fit, and no number stands twice.
use mathlib.Core.Path.{◌≡◌, sym, ◌∙◌}
use mathlib.Core.Bool.{Bool, false, ◌&&◌}
use lib.ListN.{length, get_or}
use Rattle.laws.specs.Ring.{ring_fits, places_before}
use Rattle.laws.specs.Tests.{all}
use Rattle.laws.proofs.Truth.{both_left}
use Rattle.protocol.specs.Memory.{Memory, memory_of, no_twice, asker_fits, hits_fit}
use Rattle.memory.specs.Queries.{queries_before}
use Rattle.memory.proofs.NumberLaws.{tested-is, tested-passed}
use Rattle.memory.proofs.OrderLaws.{kept-all, order-is, not_in_order, in_order}
use Rattle.memory.proofs.order.in_order.Goals.{Start, Joined-askers_fit, then-fits, else-fits, then-askers_fit, else-askers_fit}
use Rattle.memory.proofs.order.in_order.Goals as goal

-- the three tests of the ring
abbrev ring-fits : Start → Bool
ring-fits c = ring_fits (length c.args.lo.now) c.args.next c.args.count

abbrev askers : Start → Bool
askers c =
    let a = c.args in
    all (λ p. asker_fits (λ k. get_or a.live k false) (get_or a.asker.now p 0)) (places_before (length a.asker.now) a.next a.count)

abbrev counts : Start → Bool
counts c =
    let a = c.args in
    all (λ p. hits_fit (get_or a.hits.now p 0)) (places_before (length a.hits.now) a.next a.count)

abbrev ring : Start → Memory
ring c =
    let a = c.args in
    memory_of a.lo.now a.hi.now a.asker.now a.hits.now a.count a.next

-- the tests made in turn
tested : (c : Joined-askers_fit)
    → (let s = (goal.at.Joined-askers_fit c).Start in c.if-askers_fit.value ≡ ((ring-fits s && askers s) && counts s))
tested c =
    let s = (goal.at.Joined-askers_fit c).Start in
    let asked : c.if-fits.value ≡ (ring-fits s && askers s) =
    elim c.if-fits.branch [
      | then-fits w ↦ rw w.if-fits.true (w.value-is ∙ w.askers_fit.ensures)
      | else-fits w ↦ rw w.if-fits.false (w.value-is ∙ w.if-fits.false)
    ] in
    elim c.if-askers_fit.branch [
      | then-askers_fit w ↦ rw (sym asked ∙ w.if-askers_fit.true) (w.value-is ∙ w.hits_fit.ensures)
      | else-askers_fit w ↦ rw (sym asked ∙ w.if-askers_fit.false) (w.value-is ∙ w.if-askers_fit.false)
    ]

pub returns-then-hits_fit : goal.returns-then-hits_fit
returns-then-hits_fit c =
    let s = (goal.at.returns-then-hits_fit c).Start in
    let n = length c.args.lo.now in
    let qs = queries_before n (ring s) in
    let e = sym (tested (goal.at.returns-then-hits_fit c).Joined-askers_fit) ∙ c.if-hits_fit.true in
    let q = c.no_twice in
    record {
      result_value = tested-is _ qs q.result q.ensures
          ∙ in_order (ring-fits s) (no_twice qs) (askers s) (counts s) e
          ∙ sym (order-is n (ring s) (λ k. get_or c.args.live k false) c.requires.0 c.requires.1);
      fact = λ u. rw (kept-all n (ring s) (both_left _ _ (both_left _ _ e))) (tested-passed _ qs q.result q.ensures u);
    }

pub returns-else-hits_fit-clause-result_value : goal.returns-else-hits_fit-clause-result_value
returns-else-hits_fit-clause-result_value c =
    let s = (goal.at.returns-else-hits_fit-clause-result_value c).Start in
    let n = length c.args.lo.now in
    let qs = queries_before n (ring s) in
    let e = sym (tested (goal.at.returns-else-hits_fit-clause-result_value c).Joined-askers_fit) ∙ c.if-hits_fit.false in
    c.if-hits_fit.false
    ∙ sym (order-is n (ring s) (λ k. get_or c.args.live k false) c.requires.0 c.requires.1
    ∙ not_in_order (ring-fits s) (no_twice qs) (askers s) (counts s) e)
