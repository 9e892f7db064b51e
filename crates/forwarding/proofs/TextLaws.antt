-- Laws of a query's text, which the first zero byte ends.
use Prim.Native.Nat.{ℕ, ◌+◌, ◌-◌, ◌≤◌, ◌<◌}
use mathlib.Core.Path.{◌≡◌, refl, sym, ap, ◌∙◌}
use mathlib.Core.Bool.{true, false}
use mathlib.Core.List.{List, ◌∷◌}
use native.Mathlib.Numerals.{add-one}
use native.Mathlib.Omega.{arith}
use lib.Dec.{ltb}
use lib.ListN.{length, take, drop, drop_of_length-le, length-drop}
use borrow.Author.Tests.{ltb-true, eq-eqb, ne_eqb}
use Rattle.laws.proofs.Parts.{part_tail}
use Rattle.laws.proofs.UntilZero.{until_stops, until_front}
use Rattle.protocol.specs.Queries.{until_zero, text_in, has_text}
use Rattle.forwarding.specs.Texts.{text_of}

-- what the code hands back for a payload under two bytes, and else for its part from byte 2 on
pub text-none : (p : List ℕ) → length p < 2 → record { ended = false; length = 0 } ≡ text_of p
unfolding until_zero
text-none p h = let past : length p ≤ 2 = omega arith in rw (drop_of_length-le p past)

pub text-some : (p : List ℕ) (n : ℕ) → n ≡ length (until_zero (take (length p - 2) (drop 2 p)))
    → record { ended = ltb n (length (take (length p - 2) (drop 2 p))); length = n } ≡ text_of p
text-some p n e =
    rw (e, part_tail)
    (ap (λ b. record { ended = b; length = length (until_zero (drop 2 p)) }) (sym (until_stops (drop 2 p))))

-- the code's `&p[2..2 + n]`
pub text-part : (p : List ℕ) (n : ℕ) → n ≡ length (text_in p) → take (2 + n - 2) (drop 2 p) ≡ text_in p
text-part p n e = let k : 2 + n - 2 ≡ length (text_in p) = omega (arith, e) in rw k (until_front (drop 2 p))

pub text-within : (p : List ℕ) (n : ℕ) → n ≡ length (text_in p) → has_text p ≡ true → 2 + n ≤ length p
text-within p n e h =
    let k : length (text_in p) < length (drop 2 p) = ltb-true _ _ (sym (until_stops (drop 2 p)) ∙ h) in
    omega (arith, e, length-drop 2 p)

-- what stands before the first zero byte is as long as that byte's place
pub zero_here : (b : ℕ) (bs : List ℕ) → b ≡ 0 → length (until_zero (b ∷ bs)) ≡ 0
unfolding until_zero
zero_here b bs e = rw (eq-eqb b 0 e) refl

pub zero_on : (b : ℕ) (bs : List ℕ) → (b ≡ 0 → ⊥) → length (until_zero (b ∷ bs)) ≡ length (until_zero bs) + 1
unfolding until_zero
zero_on b bs n = rw (ne_eqb b 0 n) (sym (add-one (length (until_zero bs))))
