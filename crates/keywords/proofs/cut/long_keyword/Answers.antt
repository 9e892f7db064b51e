-- Where it starts, and from where on it is looked for, by either way in which these are told.
use Prim.Native.Nat.{ℕ, ◌+◌}
use mathlib.Core.Path.{◌≡◌, ap, ap₂, ◌∙◌}
use mathlib.Core.Bool.{false}
use mathlib.Core.List.{List}
use native.Mathlib.Omega.{arith}
use borrow.Author.Rules.{rules}
use Rattle.laws.proofs.Parts.{part_tail}
use Rattle.keywords.specs.declared.cut.Cut.{Cut}
use Rattle.keywords.specs.Keywords.{leading, matching, is_separator, cut_end}
use Rattle.keywords.proofs.CutLaws.{end-within, Onward, onward_near, onward-far}
use Rattle.keywords.proofs.cut.long_keyword.Goals.{After-long_run-more, After-row_known-1, then-start-lt-NEAR, else-start-lt-NEAR, then-start-lt-NEAR-2, else-start-lt-NEAR-2}
use Rattle.keywords.proofs.cut.long_keyword.Goals as goal

abbrev whole : After-row_known-1 → List ℕ
whole c = c.args.text.now

onward : (c : After-row_known-1) → Onward (whole c) c.if-start-lt-NEAR.begin c.if-start-lt-NEAR-2.from
onward c =
    let begin = c.if-start-lt-NEAR.begin in
    let from = c.if-start-lt-NEAR-2.from in
    elim c.if-start-lt-NEAR.branch [
      | then-start-lt-NEAR w ↦ elim c.if-start-lt-NEAR-2.branch [
        | then-start-lt-NEAR-2 v ↦ onward_near (whole c) begin from c.args.start c.requires w.if-start-lt-NEAR.true w.begin-is v.from-is
        | else-start-lt-NEAR-2 v ↦ absurd (let a = w.if-start-lt-NEAR.true in let b = v.if-start-lt-NEAR-2.false in omega arith)
      ]
      | else-start-lt-NEAR w ↦ elim c.if-start-lt-NEAR-2.branch [
        | then-start-lt-NEAR-2 v ↦ absurd (let a = w.if-start-lt-NEAR.false in let b = v.if-start-lt-NEAR-2.true in omega arith)
        | else-start-lt-NEAR-2 v ↦ onward-far (whole c) begin from w.long_run-begin.result w.long_run-begin.ensures w.begin-is v.from-is
      ]
    ]

pub slice_bounds-long_run-count : goal.slice_bounds-long_run-count
slice_bounds-long_run-count c = (onward c).inside

pub slice_bounds-long_run-start : goal.slice_bounds-long_run-start
slice_bounds-long_run-start c = let h = (onward c).inside in search rules

-- where it ends
ends : (c : After-long_run-more) → c.if-start-lt-NEAR-2.from + c.long_run-more.result
    ≡ cut_end (whole (goal.at.After-long_run-more c).After-row_known-1)
ends c =
    let from = c.if-start-lt-NEAR-2.from in
    let rest = part_tail from (whole (goal.at.After-long_run-more c).After-row_known-1) in
    ap (λ n. from + n) (c.long_run-more.ensures ∙ ap (leading (matching false)) rest)
    ∙ (onward (goal.at.After-long_run-more c).After-row_known-1).end

pub overflow_add-result : goal.overflow_add-result
overflow_add-result c = omega (arith, ends c, end-within is_separator (whole (goal.at.overflow_add-result c).After-row_known-1))

pub returns : goal.returns
returns c = ap₂ {C = Cut} (λ x y. record { start = x; end = y }) (onward (goal.at.returns c).After-row_known-1).start (ends c)
