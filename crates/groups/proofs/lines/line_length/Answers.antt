-- What is passed and what is left of the line are the whole line.
use native.Mathlib.Omega.{arith}
use mathlib.Core.Path.{◌≡◌, sym, ap, ◌∙◌}
use mathlib.Core.Bool.{not}
use lib.ListN.{length}
use native.Mathlib.Nat.{zero-add}
use Rattle.groups.specs.Lines.{in_line}
use Rattle.ascii.proofs.TextLaws.{run_on, run-stop, run_end}
use Rattle.groups.proofs.LineLaws.{pair-drop}
use borrow.Author.Rules.{rules}
use Rattle.groups.proofs.lines.line_length.Goals as goal

pub loop-i-init : goal.loop-i-init
loop-i-init c = (search rules, zero-add _)

pub returns-then-pair_at : goal.returns-then-pair_at
returns-then-pair_at c =
    let s = c.args.s.now in
    run-stop in_line s c.loop-i.i _ (search rules)
    (ap not (pair-drop s c.loop-i.i ∙ sym c.pair_at.ensures ∙ c.if-pair_at.true)) c.loop-i.invariant.1

pub loop-i-preserved : goal.loop-i-preserved
loop-i-preserved c =
    let s = c.args.s.now in (
      search rules,
      run_on in_line s c.loop-i.i _ (search rules)
          (ap not (pair-drop s c.loop-i.i ∙ sym c.pair_at.ensures ∙ c.if-pair_at.false)) c.loop-i.invariant.1,
    )

pub returns : goal.returns
returns c =
    let e : c.loop-i.i ≡ length c.args.s.now = omega arith in
    sym e ∙ run_end in_line c.args.s.now c.loop-i.i _ (search rules) c.loop-i.invariant.1
