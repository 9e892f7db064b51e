-- As many of the bytes as there is room for, and the rest of the part behind them.
use Prim.Native.Nat.{ℕ, ◌+◌, min}
use mathlib.Core.Path.{◌≡◌, ap, ap₂, ◌∙◌}
use mathlib.Core.List.{List, ◌++◌}
use native.Mathlib.Omega.{arith}
use lib.ListN.{length, take, drop, length-take}
use Rattle.std.proofs.Math.Nat.{min_comm}
use Rattle.laws.specs.Parts.{copied}
use Rattle.laws.proofs.Writing.{take_min}
use Rattle.wire.proofs.copy_onto.Goals as goal

copied-front : (src part : List ℕ) (n : ℕ) → n ≡ min (length src) (length part) → take n src ++ drop n part ≡ copied src part
unfolding copied
copied-front src part n e =
    let k : n ≡ 0 + length (take (length part) src) = simp length-take (omega arith) in
    ap₂ (λ x m. x ++ drop m part) (take_min (length part) n src (e ∙ min_comm _ _)) k

pub returns : goal.returns
returns c =
    ap (λ x. x ++ drop c.min-n.result c.args.part.now) c.copy_from_slice.ensures.after
    ∙ copied-front c.args.src.now c.args.part.now c.min-n.result c.min-n.ensures
