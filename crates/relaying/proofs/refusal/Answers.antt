-- Each test is the first that holds; past all, none does.
use Prim.Native.Nat.{ℕ}
use mathlib.Core.Path.{◌≡◌, sym, ap, ◌∙◌}
use mathlib.Core.Bool.{true}
use Rattle.std.proofs.lemmas.Result.{err_from_is_err_and}
use Rattle.answer.proofs.NotZero.{not_zero}
use Rattle.laws.specs.Tests.{first_of}
use Rattle.tables.specs.Tables.{good_length}
use Rattle.protocol.specs.Lines.{line_in}
use Rattle.relaying.specs.Calls.{station_rules}
use Rattle.relaying.proofs.MakeLaws.{early_refuses, list_refuses, length_refuses, short_refuses, none_refuses}
use Rattle.relaying.proofs.refusal.Goals.{In_err-station_answer, In_ok-station_answer, Else-not-good_length}
use Rattle.relaying.proofs.refusal.Goals as goal

-- the first answer is of the line as it stands in the state
pub returns-in_err-station_answer : goal.returns-in_err-station_answer
returns-in_err-station_answer c =
    let x = c.args in
    let p = err_from_is_err_and c.from_residual.result c.from_residual.ensures.1 in
    rw (p.1, p.2)
    (early_refuses x.order x.room x.lines x.line x.names.now x.size x.out x.route _
    (c.in_err-station_answer.ensures
    ∙ ap (λ b. first_of (station_rules x.order x.room x.route x.line b)) c.is_open.ensures)
    (not_zero c.in_err-station_answer.field-0.0))

-- past its test that is 0, and past its own the length is good
standing : (c : In_ok-station_answer)
    → let x = c.args in 0 ≡ first_of (station_rules x.order x.room x.route x.line (line_in x.lines x.line).live)
standing c =
    let x = c.args in
    c.in_ok-station_answer.ensures
    ∙ ap (λ b. first_of (station_rules x.order x.room x.route x.line b)) c.is_open.ensures

long : (c : Else-not-good_length)
    → good_length c.args.size ≡ true
long c = sym c.good_length.ensures ∙ c.if-not-good_length.false

pub returns-in_err-list_answer : goal.returns-in_err-list_answer
returns-in_err-list_answer c =
    let x = c.args in
    let p = err_from_is_err_and c.from_residual-in_err-list_answer.result c.from_residual-in_err-list_answer.ensures.1 in
    rw (p.1, p.2)
    (list_refuses x.order x.room x.lines x.line x.names.now x.size x.out x.route
    (standing (goal.at.returns-in_err-list_answer c).In_ok-station_answer) _ c.in_err-list_answer.ensures
    (not_zero c.in_err-list_answer.field-0.0))

pub returns-then-not-good_length : goal.returns-then-not-good_length
returns-then-not-good_length c =
    let x = c.args in
    length_refuses x.order x.room x.lines x.line x.names.now x.size x.out x.route
    (standing (goal.at.returns-then-not-good_length c).In_ok-station_answer) c.in_ok-list_answer.ensures
    (sym c.good_length.ensures ∙ c.if-not-good_length.true)

pub returns-then-out-size : goal.returns-then-out-size
returns-then-out-size c =
    let x = c.args in
    short_refuses x.order x.room x.lines x.line x.names.now x.size x.out x.route
    (standing (goal.at.returns-then-out-size c).In_ok-station_answer) c.in_ok-list_answer.ensures
    (long (goal.at.returns-then-out-size c).Else-not-good_length)
    c.if-out-size.true

pub returns : goal.returns
returns c =
    let x = c.args in
    none_refuses x.order x.room x.lines x.line x.names.now x.size x.out x.route
    (standing (goal.at.returns c).In_ok-station_answer) c.in_ok-list_answer.ensures
    (long (goal.at.returns c).Else-not-good_length)
    c.if-out-size.false
