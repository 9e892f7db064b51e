-- A refusal of the first line or of the fields is that of asking; then the value decides.
use mathlib.Core.Path.{refl, ◌∙◌}
use Rattle.std.proofs.lemmas.Result.{err_from_is_err_and}
use Rattle.handshake.proofs.GroupLaws.{refused-ask, refused-out, not-read, not-some, bad-read, bad-some, bad-out}
use Rattle.handshake.proofs.GroupLaws.{ask-absent, ask-short, ask-there, ask-out}
use Rattle.handshake.proofs.field.Goals as goal

pub returns-in_err-group : goal.returns-in_err-group
returns-in_err-group c =
    let p = err_from_is_err_and c.from_residual.result c.from_residual.ensures.1 in
    let n = c.in_err-group.ensures.refused in
    let x = c.args in
    record {
      value = rw (p.1, p.2) (refused-ask x.bytes.now c.in_err-group.field-0.0 (not-read n) (not-some n) x.name.now _);
      out_after = refused-out x.bytes.now c.in_err-group.field-0.0 (not-read n) (not-some n) x.name.now x.out.now;
    }

pub returns-in_err-found : goal.returns-in_err-found
returns-in_err-found c =
    let p = err_from_is_err_and c.from_residual-in_err-found.result c.from_residual-in_err-found.ensures.1 in
    let x = c.args in
    let o = c.in_ok-group.ensures.opened in
    let e = c.in_err-found.ensures in
    let read = bad-read o x.name.now c.in_err-found.field-0.0 e.value e.refused in
    let some = bad-some o x.name.now c.in_err-found.field-0.0 e.value e.refused in
    record {
      value = rw (p.1, p.2) (refused-ask x.bytes.now c.in_err-found.field-0.0 read some x.name.now _);
      out_after =
          bad-out o x.name.now c.in_err-found.field-0.0 e.value e.refused x.out.now _ e.out_after
          ∙ refused-out x.bytes.now c.in_err-found.field-0.0 read some x.name.now x.out.now;
    }

pub returns-then-room-length : goal.returns-then-room-length
returns-then-room-length c =
    let x = c.args in
    let o = c.in_ok-group.ensures.opened in
    let e = rw c.in-Some.is at c.in_ok-found.ensures.value in
    record {
      value = ask-short o x.name.now _ e refl refl _ c.if-room-length.true;
      out_after = ask-out o x.name.now _ e refl x.out.now _ c.write_value.ensures.out_after;
    }

pub returns-else-room-length : goal.returns-else-room-length
returns-else-room-length c =
    let x = c.args in
    let o = c.in_ok-group.ensures.opened in
    let e = rw c.in-Some.is at c.in_ok-found.ensures.value in
    record {
      value = ask-there o x.name.now _ e refl refl _ c.if-room-length.false;
      out_after = ask-out o x.name.now _ e refl x.out.now _ c.write_value.ensures.out_after;
    }

pub returns-in_default : goal.returns-in_default
returns-in_default c =
    let x = c.args in
    let o = c.in_ok-group.ensures.opened in
    let e = rw c.in_default.is at c.in_ok-found.ensures.value in
    record {
      value = rw c.in_default.is (ask-absent o x.name.now _ e refl refl _);
      out_after = ask-out o x.name.now _ e refl x.out.now _ c.write_value.ensures.out_after;
    }
