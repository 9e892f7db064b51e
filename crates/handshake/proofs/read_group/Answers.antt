-- A refusal of the first line or of the fields is that of reading; a group of fields is read.
use Prim.Native.Nat.{ℕ}
use mathlib.Core.Path.{◌≡◌, refl}
use mathlib.Core.Bool.{true}
use Rattle.std.proofs.Common.{Option, Some, None, Ok}
use Rattle.std.proofs.lemmas.Result.{err_from_is_err_and}
use Rattle.fields.specs.Step.{found_by}
use Rattle.handshake.proofs.GroupLaws.{refused-read, not-read, not-some, bad-read, bad-some, good-read}
use Rattle.handshake.proofs.read_group.Goals as goal

pub returns-in_err-group : goal.returns-in_err-group
returns-in_err-group c =
    let p = err_from_is_err_and c.from_residual.result c.from_residual.ensures.1 in
    let n = c.in_err-group.ensures.refused in
    rw (p.1, p.2) (refused-read c.args.bytes.now c.in_err-group.field-0.0 (not-read n) (not-some n))

pub returns-in_err-find : goal.returns-in_err-find
returns-in_err-find c =
    let p = err_from_is_err_and c.from_residual-in_err-find.result c.from_residual-in_err-find.ensures.1 in
    let o = c.in_ok-group.ensures.opened in
    let e = c.in_err-find.ensures in
    rw (p.1, p.2) (refused-read c.args.bytes.now c.in_err-find.field-0.0 (bad-read o _ _ e.value e.refused)
    (bad-some o _ _ e.value e.refused))

-- the lines are fields, whether or not one has the name
fields-found : (found : Option ℕ) → (found_by (Ok found)).good ≡ true
fields-found None = refl
fields-found (Some n) = refl

pub returns : goal.returns
returns c =
    good-read c.in_ok-group.ensures.opened _ _ c.in_ok-find.ensures.value (fields-found c.in_ok-find.field-0)
