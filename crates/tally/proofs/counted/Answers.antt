-- An answer number below the bound has its count raised by one, up to a full one; any other leaves the tally.
use Prim.Native.Nat.{ℕ, ◌+◌, ◌≤◌, ◌<◌, min}
use mathlib.Core.Path.{◌≡◌, ap}
use lib.ListN.{get_or, set}
use borrow.Author.Tests.{lt-ltb, le-ltb}
use Rattle.std.proofs.Math.Nat.{min_comm}
use Rattle.tally.specs.declared.Tally.{Tally}
use Rattle.tally.specs.Counts.{answer_count, full, one_more, bump, counted}
use Rattle.tally.proofs.counted.Goals as goal

raised-is : (t : Tally) (a i n : ℕ) → i ≡ a → i < answer_count → n ≡ min (get_or t.counts i 0 + 1) full
    → ◌≡◌ {A = Tally} (record { counts = set t.counts i n }) (counted t a)
unfolding one_more bump counted
raised-is t a i n e h f =
    rw (← e, lt-ltb i answer_count h, f)
    (ap (λ k. record { counts = set t.counts i k }) (min_comm (get_or t.counts i 0 + 1) full))

stays : (t : Tally) (a i : ℕ) → i ≡ a → answer_count ≤ i → t ≡ counted t a
unfolding bump counted
stays t a i e h = rw (← e, le-ltb i answer_count h)

pub returns-then-i-lt-ANSWERS : goal.returns-then-i-lt-ANSWERS
returns-then-i-lt-ANSWERS c =
    raised-is c.args.t c.args.answer c.from-i.result c.saturating_add.result c.from-i.ensures c.if-i-lt-ANSWERS.true
    c.saturating_add.ensures

pub returns-else-i-lt-ANSWERS : goal.returns-else-i-lt-ANSWERS
returns-else-i-lt-ANSWERS c = stays c.args.t c.args.answer c.from-i.result c.from-i.ensures c.if-i-lt-ANSWERS.false
