-- Three cases, a law for each: pairs that cannot be written, no pairs, and some pairs.
use mathlib.Core.Path.{◌≡◌, sym, ◌∙◌}
use lib.ListN.{length}
use Rattle.handshake.proofs.Busy.{busy-wrong, busy-alone, busy-some}
use Rattle.handshake.proofs.write.write_busy.Goals as goal

pub returns-then-not-can_write : goal.returns-then-not-can_write
returns-then-not-can_write c =
    let x = c.args in
    let h = busy-wrong x.pairs x.out.now (sym c.can_write.ensures ∙ c.if-not-can_write.true) in
    record { value = h.0; out_after = h.1 }

pub returns-then-pairs-eq0 : goal.returns-then-pairs-eq0
returns-then-pairs-eq0 c =
    let x = c.args in
    let p = c.put_whole.ensures in
    let h = busy-alone x.pairs x.out.now (sym c.can_write.ensures ∙ c.if-not-can_write.false)
    c.if-pairs-eq0.true _ _ (p.value, p.out_after) in
    record { value = h.0; out_after = h.1 }

pub returns : goal.returns
returns c =
    let x = c.args in
    let k : length x.pairs.pairs ≡ 32 = c.well_formed.0.1.1.1.0.1.0.1 in
    let p = c.put_whole-2.ensures in
    let h = busy-some x.pairs x.out.now (sym c.can_write.ensures ∙ c.if-not-can_write.false) k
    c.if-pairs-eq0.false
    c.put_busy-n.result c.put_busy-n.new.out _ _ _ c.put_busy-n.ensures.value.0 c.put_busy-n.ensures.out_after
    (p.value, p.out_after) in
    record { value = h.0; out_after = h.1 }
