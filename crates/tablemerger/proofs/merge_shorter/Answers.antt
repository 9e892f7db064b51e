-- The first j blocks of the entries are merged, the others as they were.
use Rattle.std.proofs.Common.{◌≡◌, ◌+◌, ◌-◌, ◌*◌, ◌/◌, ◌≤◌, min, map, length, get_or, take, drop, sym, ap, ◌∙◌, arith, rules}
use native.Mathlib.Nat.{zero-mul, mul-div-le}
use Rattle.tablemerger.proofs.MergeSteps.{block_within, blocks-behind, covered_one, covered_none, farther, mapped_by}
use Rattle.tablemerger.proofs.MergeSteps.{merging_first, merging_block, merging_end}
use Rattle.tablemerger.proofs.merge_shorter.Goals.{In-loop-j}
use Rattle.tablemerger.proofs.merge_shorter.Goals as goal

pub loop-j-init : goal.loop-j-init
loop-j-init c = rw zero-mul (merging_first _ _ _)

-- a block is left
left : (c : In-loop-j)
    → c.loop-j.j * (length c.args.entries.now / length c.args.table.now) + length c.args.entries.now / length c.args.table.now
    ≤ length c.args.entries.now
left c =
    let x = c.args in
    block_within c.loop-j.j (length x.table.now) _ _ (search rules)
    (mul-div-le (length x.entries.now) (length x.table.now))

pub loop-j-preserved : goal.loop-j-preserved
loop-j-preserved c =
    let l = c.loop-j in
    let x = c.args in
    let size = length x.entries.now / length x.table.now in
    let from = l.j * size in
    let next : (l.j + 1) * size ≡ from + size = omega arith in
    let e = get_or x.table.now l.j 0 in
    let f = c.lower_each in
    let block = take (from + size - from) (drop from l.entries) in
    rw next
    (merging_block x.infinity x.table.now x.entries.now l.entries from l.invariant
    e (from + size) f.new.entries (omega arith) (left (goal.at.loop-j-preserved c).In-loop-j)
    (λ p. (c.slice_known-1.given p).fits)
    (λ p h k. covered_one _ _ p (search rules) l.j (search rules) (omega arith) (omega arith))
    (mapped_by (farther x.infinity e) block f.new.entries f.auto.entries
    (λ i h.
    let w = f.ensures i h in
    let p = w.1 in
    let q : w.0 ≡ c.farther-v.result = search rules in
    w.2 ∙ ap (λ v. min v (get_or block i 0)) (q ∙ c.farther-v.ensures))))

pub returns : goal.returns
returns c =
    let l = c.loop-j in
    let x = c.args in
    let size = length x.entries.now / length x.table.now in
    let e : length x.table.now ≡ l.j = omega arith in
    merging_end _ _ _ _ _ l.invariant
    (λ p h k. covered_none _ x.table.now p (search rules) (blocks-behind _ _ p (search rules) (search rules)
    (omega (arith, ap (λ k. k * size) e))))
