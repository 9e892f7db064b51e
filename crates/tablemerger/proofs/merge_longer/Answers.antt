-- Each entry takes the least of what its place covers.
use Rattle.std.proofs.Common.{◌≡◌, ◌+◌, ◌*◌, ◌/◌, min, length, get_or, take, drop, ◌-◌, sym, ap, ◌∙◌, arith, rules}
use Rattle.tablemerging.specs.Merging.{reaching, nearest}
use Rattle.tablemerger.proofs.MergeSteps.{merged_by, covered_same, covered-two, covered-block, nearest-one, nearest-two, farther}
use Rattle.tablemerger.proofs.IdleLaws.{nearest_idle}
use Rattle.tablemerger.proofs.merge_longer.Goals as goal

pub returns-then-most-saturating_add : goal.returns-then-most-saturating_add
returns-then-most-saturating_add c =
    let x = c.args in
    let f = c.lower_each in
    merged_by x.infinity x.table.now x.entries.now f.new.entries f.auto.entries
    (λ i h.
    let w = f.ensures i h in
    let old = get_or x.entries.now i 0 in
    let e = get_or x.table.now i 0 in
    let n = length x.entries.now in
    let p = w.1 in
    let q : w.0 ≡ min (e + 1) 255 = search rules in
    w.2
    ∙ omega (arith, q)
    ∙ nearest_idle x.infinity x.most (omega (arith, c.saturating_add.ensures)) e old (c.requires.2 i)
    ∙ ap (λ l. nearest old (reaching x.infinity l)) (sym (covered_same n x.table.now i (search rules) h)))

pub returns-else-most-saturating_add : goal.returns-else-most-saturating_add
returns-else-most-saturating_add c =
    let x = c.args in
    let f = c.lower_each-else-most-saturating_add in
    merged_by x.infinity x.table.now x.entries.now f.new.entries f.auto.entries
    (λ i h.
    let w = f.ensures i h in
    let old = get_or x.entries.now i 0 in
    let e = get_or x.table.now i 0 in
    let n = length x.entries.now in
    let p = w.1 in
    let q : w.0 ≡ farther x.infinity e = search rules in
    w.2 ∙ ap (λ v. min v old) q
    ∙ nearest-one x.infinity e old (search rules)
    ∙ ap (λ l. nearest old (reaching x.infinity l)) (sym (covered_same n x.table.now i (search rules) h)))

pub returns-then-table-entries-2 : goal.returns-then-table-entries-2
returns-then-table-entries-2 c =
    let x = c.args in
    let f = c.lower_each-then-table-entries-2 in
    merged_by x.infinity x.table.now x.entries.now f.new.entries f.auto.entries
    (λ i h.
    let w = f.ensures i h in
    let old = get_or x.entries.now i 0 in
    let p = w.1 in
    let q : w.0 ≡ min (farther x.infinity (get_or x.table.now (2 * i) 0)) (farther x.infinity (get_or x.table.now (2 * i + 1) 0))
    = search rules in
    w.2 ∙ ap (λ v. min v old) q
    ∙ nearest-two x.infinity (get_or x.table.now (2 * i) 0) (get_or x.table.now (2 * i + 1) 0) old (search rules)
    ∙ ap (λ l. nearest old (reaching x.infinity l)) (sym (covered-two (length x.entries.now) x.table.now i (omega arith) h)))
