-- The digits that are left make the whole number of what was read.
use Prim.Native.Nat.{ℕ, ◌+◌, ◌≤◌, ◌<◌}
use mathlib.Core.Path.{◌≡◌, sym, ap, ◌∙◌}
use mathlib.Core.List.{List}
use native.Mathlib.Numerals.{add-one}
use native.Mathlib.Omega.{arith}
use lib.ListN.{length, get_or, drop, drop_of_length-le}
use lib.Seq.{drop-cons}
use Rattle.rows.specs.Rows.{more, decimal}
use Rattle.rows.proofs.number_of.Goals as goal

-- one digit is read
decimal-next : (text : List ℕ) (i n : ℕ) → i < length text
    → decimal (more n (get_or text i 0)) (drop (i + 1) text) ≡ decimal n (drop i text)
unfolding decimal
decimal-next text i n h = rw (add-one, drop-cons text i 0)

-- none is left
decimal-end : (text : List ℕ) (i n : ℕ) → length text ≤ i → decimal n (drop i text) ≡ n
unfolding decimal
decimal-end text i n h = rw drop_of_length-le

pub loop-digit-preserved : goal.loop-digit-preserved
loop-digit-preserved c =
    let text = c.args.text.now in
    let i = c.loop-digit.digit-index in
    ap (λ (n : ℕ). decimal n (drop (i + 1) text)) c.more-n.ensures
    ∙ decimal-next text i c.loop-digit.n (omega arith)
    ∙ c.loop-digit.invariant

pub returns : goal.returns
returns c =
    sym (decimal-end c.args.text.now c.loop-digit.digit-index c.loop-digit.n (omega arith))
    ∙ c.loop-digit.invariant
