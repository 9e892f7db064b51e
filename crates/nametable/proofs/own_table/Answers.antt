-- Each refusal leaves the output; else the first bytes of the output become the table.
use mathlib.Core.Path.{◌≡◌, sym, ap, ◌∙◌}
use mathlib.Core.Bool.{true}
use lib.ListN.{length, take, replicate}
use lib.Seq.{length-take-le}
use Rattle.std.proofs.lemmas.Result.{err_from_is_err_and}
use Rattle.answer.proofs.NotZero.{not_zero}
use Rattle.tables.specs.Tables.{good_length, good_infinity}
use Rattle.namearea.specs.Area.{names_of}
use Rattle.nametable.specs.Table.{own_places, with_ones}
use Rattle.nametable.proofs.TableLaws.{Gives, list_refuses, length_refuses, infinity_refuses, short_refuses, made}
use Rattle.nametable.proofs.own_table.Goals.{then-not-good_length-via-then-not-good_length}
use Rattle.nametable.proofs.own_table.Goals.{then-not-good_length-via-else-not-good_length+then-not-good_infinity}
use Rattle.nametable.proofs.own_table.Goals.{Else-not-good_infinity, Else-not-good_length}
use Rattle.nametable.proofs.own_table.Goals as goal

pub returns-in_err-list_answer : goal.returns-in_err-list_answer
returns-in_err-list_answer c =
    let x = c.args in
    let p = err_from_is_err_and c.from_residual.result c.from_residual.ensures.1 in
    let d =
    list_refuses x.area.now x.size x.infinity x.out.now _ c.in_err-list_answer.ensures
    (not_zero c.in_err-list_answer.field-0.0) in
    record {
      answer = rw (p.1, p.2) d.0;
      bytes = d.1;
    }

pub returns-then-not-good_length : goal.returns-then-not-good_length
returns-then-not-good_length c =
    let x = c.args in
    let d : Gives x.area.now x.size x.infinity x.out.now 14 x.out.now =
    elim c.then-not-good_length.branch [
      | then-not-good_length-via-then-not-good_length w ↦
          length_refuses x.area.now x.size x.infinity x.out.now c.in_ok-list_answer.ensures
          (sym c.good_length.ensures ∙ w.if-not-good_length.true)
      | then-not-good_length-via-else-not-good_length+then-not-good_infinity w ↦
          infinity_refuses x.area.now x.size x.infinity x.out.now c.in_ok-list_answer.ensures
          (sym c.good_length.ensures ∙ w.if-not-good_length.false)
          (sym w.good_infinity.ensures ∙ w.if-not-good_infinity.true)
    ] in
    record {
      answer = d.0;
      bytes = d.1;
    }

-- past their test, the length is good, and so is the Infinity
long : (c : Else-not-good_length) → good_length c.args.size ≡ true
long c = sym c.good_length.ensures ∙ c.if-not-good_length.false

whole : (c : Else-not-good_infinity)
    → good_infinity c.args.infinity ≡ true
whole c = sym c.good_infinity.ensures ∙ c.if-not-good_infinity.false

pub returns-then-out-n : goal.returns-then-out-n
returns-then-out-n c =
    let x = c.args in
    let d =
    short_refuses x.area.now x.size x.infinity x.out.now c.in_ok-list_answer.ensures
    (long (goal.at.returns-then-out-n c).Else-not-good_length) (whole (goal.at.returns-then-out-n c).Else-not-good_infinity)
    c.if-out-n.true in
    record {
      answer = d.0;
      bytes = d.1;
    }

pub returns : goal.returns
returns c =
    let x = c.args in
    let d =
    made x.area.now x.size x.infinity x.out.now c.in_ok-list_answer.ensures
    (long (goal.at.returns c).Else-not-good_length) (whole (goal.at.returns c).Else-not-good_infinity)
    c.if-out-n.false _
    (c.make.ensures
    ∙ ap (λ k. with_ones (own_places x.size (names_of k x.area.now))
    (replicate (length (take x.size x.out.now)) x.infinity))
    c.count_in.ensures) in
    record {
      answer = d.0;
      bytes = d.1;
    }
