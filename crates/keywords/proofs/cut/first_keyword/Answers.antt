-- A keyword that ends among the text's first bytes is the text's; else it reaches the last of them.
use Prim.Native.Nat.{◌+◌, ◌≤◌, ◌<◌}
use mathlib.Core.Path.{◌≡◌, ap, ap₂, ◌∙◌}
use mathlib.Core.Bool.{true}
use native.Mathlib.Omega.{arith}
use lib.ListN.{length, take}
use borrow.Author.Rules.{rules}
use Rattle.keywords.specs.declared.cut.Cut.{Cut}
use Rattle.keywords.specs.Keywords.{matching, is_separator, cut_start, cut_end, cut_of}
use Rattle.keywords.specs.Blocks.{near}
use Rattle.keywords.proofs.CutLaws.{leading-within, end-within, cut-front, runs-end, runs-cut, cut-told}
use Rattle.keywords.proofs.cut.first_keyword.Goals.{After-run-size, After-run-start, After-then_some}
use Rattle.keywords.proofs.cut.first_keyword.Goals.{then-start-size-lt-NEAR, else-start-size-lt-NEAR}
use Rattle.keywords.proofs.cut.first_keyword.Goals as goal

-- the first keyword starts within these bytes
within : (c : After-run-start) → c.run-start.result ≤ length c.front-near.result.now
within c = rw c.run-start.ensures (leading-within (matching true) c.front-near.result.now)

pub slice_bounds-run-count : goal.slice_bounds-run-count
slice_bounds-run-count c = within c

pub slice_bounds-run-start : goal.slice_bounds-run-start
slice_bounds-run-start c = let h = within c in search rules

-- where it ends in them
ends : (c : After-run-size) → c.run-start.result + c.run-size.result
    ≡ cut_end c.front-near.result.now
ends c =
    let first = c.front-near.result.now in
    runs-end first c.run-start.result c.run-size.result c.run-start.ensures c.run-size.ensures

pub overflow_add-start : goal.overflow_add-start
overflow_add-start c = omega (arith, ends c, end-within is_separator c.front-near.result.now)

pub long_keyword-cut-requires : goal.long_keyword-cut-requires
long_keyword-cut-requires c =
    let is = c.front-near.ensures in
    (c.run-start.ensures ∙ ap cut_start is, omega (arith, ends (goal.at.long_keyword-cut-requires c).After-run-size, ap cut_end is, c.if-start-size-lt-NEAR.false))

is : (c : After-then_some) → c.if-start-size-lt-NEAR.cut ≡ cut_of c.args.text.now
is c =
    let text = c.args.text.now in
    let first = c.front-near.result.now in
    let is = c.front-near.ensures in
    elim c.if-start-size-lt-NEAR.branch [
      | then-start-size-lt-NEAR w ↦
          let soon : cut_end (take near text) < near = omega (arith, ends (goal.at.After-then_some c).After-run-size, ap cut_end is, w.if-start-size-lt-NEAR.true) in
          let same = cut-front is_separator near text soon in
          w.cut-is
          ∙ runs-cut first c.run-start.result c.run-size.result c.run-start.ensures c.run-size.ensures
          ∙ ap cut_of is
          ∙ ap₂ {C = Cut} (λ x y. record { start = x; end = y }) same.0 same.1
      | else-start-size-lt-NEAR w ↦ w.cut-is ∙ w.long_keyword-cut.ensures
    ]

pub returns-clause-cut : goal.returns-clause-cut
returns-clause-cut c =
    (cut-told c.args.text.now c.if-start-size-lt-NEAR.cut c.then_some.result (is c) c.then_some.ensures).0

pub returns-clause-inside : goal.returns-clause-inside
returns-clause-inside c =
    (cut-told c.args.text.now c.if-start-size-lt-NEAR.cut c.then_some.result (is c) c.then_some.ensures).1
