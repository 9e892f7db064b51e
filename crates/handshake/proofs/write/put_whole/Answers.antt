-- Two cases: an area shorter than the text stays as it is, and any other has the text copied to its front.
use mathlib.Core.Path.{refl, sym, ap, ◌∙◌}
use mathlib.Core.List.{◌++◌}
use lib.ListN.{length, drop}
use lib.Seq.{take-length}
use Rattle.handshake.proofs.Busy.{whole-short, whole-put}
use borrow.Author.Rules.{rules}
use Rattle.handshake.proofs.write.put_whole.Goals as goal

pub returns-then-out-written : goal.returns-then-out-written
returns-then-out-written c =
    let x = c.args in
    let h = whole-short x.text.now x.out.now c.if-out-written.true in
    record { value = h.0; out_after = h.1 }

pub returns : goal.returns
returns c =
    let x = c.args in
    let h =
    whole-put x.text.now x.out.now _ _ (search rules) refl
    (ap (λ y. y ++ drop (length x.text.now) x.out.now)
    (c.copy_from_slice.ensures.after ∙ sym (take-length x.text.now))) in
    record { value = h.0; out_after = h.1 }
