-- The first end from n on is the first of all.
use Prim.Native.Nat.{◌+◌, ◌-◌}
use mathlib.Core.Path.{◌≡◌, sym, ◌∙◌}
use native.Mathlib.Omega.{arith}
use Rattle.groups.specs.Lines.{ends_at, group_length}
use Rattle.groups.proofs.LineLaws.{first-here, first_on, first-four, first-end, ends-not}
use borrow.Author.Rules.{rules}
use borrow.Author.Tests.{ne_eqb}
use Rattle.groups.proofs.lines.group_length.Goals as goal

pub loop-n-init : goal.loop-n-init
unfolding group_length
loop-n-init c =
    let e : c.min-last.result + 1 - 2 ≡ c.min-last.result - 1 = omega arith in
    (search rules, rw (e, c.min-last.ensures))

pub overflow_add-n : goal.overflow_add-n
overflow_add-n c = omega arith

pub loop-n-preserved-then-is_text : goal.loop-n-preserved-then-is_text
loop-n-preserved-then-is_text c =
    let m = c.args.m.now in
    let none = ends-not m c.loop-n.n c.loop-n.invariant.0 (sym c.is_text.ensures ∙ c.if-is_text.true) in
    (search rules, sym (first-four (ends_at m) _ c.loop-n.n none.0 none.1 none.2 none.3) ∙ c.loop-n.invariant.1)

pub returns-then-ends_at : goal.returns-then-ends_at
returns-then-ends_at c =
    let e = sym (first-here (ends_at c.args.m.now) _ c.loop-n.n (search rules)
    (sym c.ends_at.ensures ∙ c.if-ends_at.true)) ∙ c.loop-n.invariant.1 in
    rw (← e, ne_eqb c.loop-n.n 0 (λ k. omega arith))

pub loop-n-preserved : goal.loop-n-preserved
loop-n-preserved c = (
  search rules,
  sym (first_on (ends_at c.args.m.now) _ c.loop-n.n
      (sym c.ends_at.ensures ∙ c.if-ends_at.false)) ∙ c.loop-n.invariant.1,
)

pub returns : goal.returns
returns c =
    let e = sym (first-end (ends_at c.args.m.now) _ c.loop-n.n (search rules)) ∙ c.loop-n.invariant.1 in
    rw (← e)
