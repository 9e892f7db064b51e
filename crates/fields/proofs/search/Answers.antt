-- What was found up to a line and what is left make the whole; lines before the first of the name add nothing.
use Prim.Native.Nat.{◌+◌, ◌≤◌}
use mathlib.Core.Path.{◌≡◌, refl, sym, ap, ◌∙◌}
use native.Mathlib.Omega.{arith}
use lib.ListN.{length}
use borrow.Author.Rules.{rules}
use Rattle.fields.proofs.FieldLaws.{left-all, left-good, left-none, left_end, left-broken, Ended}
use Rattle.fields.proofs.FieldLaws.{left-bad, left-on, left-small, not-fields, met-on, separated-count}
use Rattle.fields.specs.Step.{separated, step_of}
use Rattle.std.proofs.Common.{is_some}
use Rattle.std.specs.Option.{option_or}
use Rattle.std.specs.Bool.{then_some}
use Rattle.fields.proofs.FieldLaws.{begun-on}
use Rattle.fields.proofs.search.Goals.{After-new-line, After-from}
use Rattle.fields.proofs.search.Goals as goal

ended : (f : After-new-line) → Ended f.args.s.now f.loop-next.next f.new-line.result.text.now
ended f =
    record {
      rest = f.after-rest.result.now;
      size = f.leading-size.result;
      inside = search rules;
      is-rest = f.after-rest.ensures;
      is-size = f.leading-size.ensures;
      ends = sym f.line_ends.ensures ∙ f.if-not-line_ends.false;
      is-line = f.new-line.ensures ∙ f.front.ensures;
    }

pub loop-next-init : goal.loop-next-init
loop-next-init c = let x = c.args in (left-all x.s.now x.name.now, refl)

pub returns-then-not-line_ends : goal.returns-then-not-line_ends
returns-then-not-line_ends c =
    let bad = left-broken c.loop-next.invariant.0 c.after-rest.result.now c.leading-size.result (search rules)
    c.after-rest.ensures c.leading-size.ensures (sym c.line_ends.ensures ∙ c.if-not-line_ends.true) in
    record { value = not-fields c.args.s.now c.args.name.now bad; refused = rw bad; whole_from = tt }

pub returns-then-not-field_ok : goal.returns-then-not-field_ok
returns-then-not-field_ok c =
    let bad = left-bad c.loop-next.invariant.0 (ended (goal.at.returns-then-not-field_ok c).After-new-line)
    (sym c.field_ok.ensures ∙ c.if-not-field_ok.true) in
    record { value = not-fields c.args.s.now c.args.name.now bad; refused = rw bad; whole_from = tt }

-- what the line adds
count : (c : After-from) → c.from.result ≡ length (separated c.step-added.result.separator)
count c = c.from.ensures ∙ separated-count c.step-added.result.separator _ c.is_some-in-loop-next.ensures

step : (c : After-from) → c.step-added.result ≡ step_of c.args.name.now c.loop-next.mine (is_some c.loop-next.first)
    c.new-line.result.text.now
step c = rw c.is_some.ensures at c.step-added.ensures

small : (c : After-from)
    → c.loop-next.total + c.from.result + length c.after-part.result.now ≤ length c.args.s.now + 2
small c =
    left-small c.loop-next.invariant.0 (ended (goal.at.After-from c).After-new-line) c.step-added.result (step c)
    c.after-part.result.now c.after-part.ensures c.from.result (count c)

pub overflow_add-total : goal.overflow_add-total
overflow_add-total c = omega (arith, small (goal.at.overflow_add-total c).After-from)

pub overflow_add-total-in-loop-next : goal.overflow_add-total-in-loop-next
overflow_add-total-in-loop-next c = omega (arith, small (goal.at.overflow_add-total-in-loop-next c).After-from)

pub loop-next-preserved : goal.loop-next-preserved
loop-next-preserved c =
    let a = (goal.at.loop-next-preserved c).After-from in
    let d = ended (goal.at.loop-next-preserved c).After-new-line in
    let l = c.loop-next in
    let st = c.step-added.result in
    let first : c.or-first.result ≡ option_or l.first (then_some st.found l.next)
    = c.or-first.ensures ∙ ap (option_or l.first) c.then_some.ensures in
    rw (first, met-on l.first l.next c.args.name.now c.new-line.result.text.now l.mine st (step a)) (
      left-on l.invariant.0 d st (step a) c.after-part.result.now c.after-part.ensures c.from.result (count a)
          (sym c.field_ok.ensures ∙ c.if-not-field_ok.false),
      begun-on c.args.s.now c.args.name.now l.first l.invariant.1 d l.mine st (step a),
    )

pub returns : goal.returns
returns c =
    let l = c.loop-next.invariant.0 in
    record {
      value = rw c.in-Some.is at (left_end l (search rules));
      refused = rw (left-good l (search rules));
      whole_from = rw c.in-Some.is at c.loop-next.invariant.1;
    }

pub returns-in_default-clause-value : goal.returns-in_default-clause-value
returns-in_default-clause-value c =
    let l = c.loop-next.invariant.0 in
    let none = left-none l (search rules) (ap is_some c.in_default.is) in
    rw none at (rw c.in_default.is at (left_end l (search rules)))

pub returns-in_default-clause-refused : goal.returns-in_default-clause-refused
returns-in_default-clause-refused c = rw (left-good c.loop-next.invariant.0 (search rules))
