-- One law of asking shows that what was written is within the array, and that its pairs are the group's.
use Prim.Native.Nat.{ℕ, ◌≤◌}
use mathlib.Core.Path.{sym}
use lib.ListN.{length, replicate, length-replicate}
use lib.Seq.{length-take-le}
use Rattle.std.proofs.lemmas.Result.{err_from_is_err_and}
use Rattle.handshake.specs.Group.{asked_for}
use Rattle.handshake.proofs.Asking.{Gives, ask-gives, refused_asked, asked-written, asked-used, asked-tried}
use Rattle.handshake.proofs.hosts.try_pairs.Goals.{After-unwrap_or-n}
use Rattle.handshake.proofs.hosts.try_pairs.Goals as goal

pub returns-in_err-field : goal.returns-in_err-field
returns-in_err-field c =
    let p = err_from_is_err_and c.from_residual.result c.from_residual.ensures.1 in
    rw (p.1, p.2)
    (refused_asked c.args.bytes.now (replicate 4096 0) (length-replicate {A = ℕ} 4096 0) c.in_err-field.field-0.0
    c.in_err-field.ensures.value)

gives : (c : After-unwrap_or-n)
    → Gives c.args.bytes.now (replicate 4096 0) (length-replicate {A = ℕ} 4096 0)
    (asked_for c.in_ok-field.field.used c.in_ok-field.field.written) c.field.new.out
gives c =
    ask-gives c.args.bytes.now (replicate 4096 0) (length-replicate {A = ℕ} 4096 0) _ c.field.new.out
    c.in_ok-field.ensures.value c.field.ensures.out_after

-- as many bytes as were written are there
within : (c : After-unwrap_or-n) → c.unwrap_or-n.result ≤ length c.field.new.out
within c =
    rw (c.unwrap_or-n.ensures, ← asked-written c.in_ok-field.field.used c.in_ok-field.field.written) (gives c).0

pub slice_bounds-value-end : goal.slice_bounds-value-end
slice_bounds-value-end c = within (goal.at.slice_bounds-value-end c).After-unwrap_or-n

pub slice_bounds-read_pairs-end : goal.slice_bounds-read_pairs-end
slice_bounds-read_pairs-end c =
    sym (length-take-le c.unwrap_or-n.result c.field.new.out
    (within (goal.at.slice_bounds-read_pairs-end c).After-unwrap_or-n))

pub returns : goal.returns
returns c =
    let r = c.in_ok-field.field in
    let g = (gives (goal.at.returns c).After-unwrap_or-n).1 in
    rw (c.read_pairs.ensures, c.unwrap_or-n.ensures, ← asked-written r.used r.written)
    (rw (asked-tried, asked-used) at g)
