-- Both tables lower the entries by all that they have, or one is merged and then the other.
use Rattle.std.proofs.Common.{◌≡◌, ◌+◌, min, length, get_or, ◌∙◌, arith, rules}
use Rattle.tablemerger.proofs.IdleLaws.{merged-within, lowered-two, lowered_by}
use Rattle.tablemerger.proofs.merge_pair.Goals as goal

pub returns-then-most-saturating_add : goal.returns-then-most-saturating_add
returns-then-most-saturating_add c =
    let x = c.args in
    let f = c.lower_each in
    lowered_by x.first.now x.second.now x.entries.now f.new.entries f.auto.entries
    (λ i h.
    let w = f.ensures i h in
    let p = w.1 in
    let q : w.0 ≡ min (min (get_or x.first.now i 0) (get_or x.second.now i 0) + 1) 255 = search rules in
    w.2 ∙ omega (arith, q, c.requires i))
    ∙ lowered-two x.most x.infinity1 x.infinity2 (search rules) x.first.now x.second.now
    x.entries.now (search rules) (search rules) c.requires

pub merge-requires-else-first-entries : goal.merge-requires-else-first-entries
merge-requires-else-first-entries c =
    let x = c.args in
    rw c.merge.ensures (merged-within x.infinity1 x.most x.first.now x.entries.now c.requires)
