-- The product of two 32-bit numbers fits 64 bits.
use Prim.Native.Nat.{◌*◌, ◌^◌, ◌<◌}
use native.Mathlib.Omega.{arith}
use borrow.Author.Rules.{rules}
use Rattle.laws.proofs.Bits.{product_below}
use Rattle.keywords.proofs.hash.scaled_place.Goals as goal

pub overflow_mul-result : goal.overflow_mul-result
overflow_mul-result c = record { fits = product_below 32 (search rules) (search rules) }

pub overflow_cast-result-3 : goal.overflow_cast-result-3
overflow_cast-result-3 c =
    let h : c.args.hash * c.args.length < 2 ^ 64 = product_below 32 (search rules) (search rules) in
    omega arith
