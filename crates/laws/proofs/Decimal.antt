-- Numbers and powers of ten, and a text that is written from its last byte to its first.
use Prim.Native.Nat.{ℕ, suc, ◌+◌, ◌/◌, ◌^◌, ◌<◌}
use mathlib.Core.Path.{◌≡◌, sym, ap, ap₂, ◌∙◌}
use mathlib.Core.List.{List, [], ◌∷◌, ◌++◌}
use native.Mathlib.Nat.{pow-suc}
use native.Mathlib.Omega.{arith}
use lib.ListN.{length, take, drop, set, length-set, length-append}
use lib.Seq.{append_snoc, take-set-le, drop-cons, drop-set-lt, get_or-set_same}
use Rattle.laws.specs.Parts.{over}
use Rattle.laws.proofs.Text.{over_none, over-set}

-- a digit less
pub tenth-below : (k n : ℕ) → n < 10 ^ suc k → n / 10 < 10 ^ k
tenth-below k n h = omega (arith, pow-suc 10 k)

-- a byte by itself
pub over-byte : (at x : ℕ) (area : List ℕ) → at < length area → set area at x ≡ over at (x ∷ []) area
over-byte at x area h = sym (over_none (at + 1) (set area at x)) ∙ over-set at x [] area h

-- the last byte of a text is written before those in front of it
pub over_last : (at : ℕ) (xs : List ℕ) (x : ℕ) (area : List ℕ) → at + length xs < length area
    → over at xs (set area (at + length xs) x) ≡ over at (xs ++ (x ∷ [])) area
over_last at xs x area h =
    let j = at + length xs in
    let now = set area j x in
    let front : take at now ≡ take at area = take-set-le at area j x (omega arith) in
    let k : j < length now = simp length-set h in
    let back : drop j now ≡ x ∷ drop (suc j) area =
    drop-cons now j 0 k ∙ ap₂ (λ a b. a ∷ b) (get_or-set_same area j x 0 h)
    (drop-set-lt (suc j) area j x (omega arith)) in
    let e : at + length (xs ++ (x ∷ [])) ≡ suc j = omega (arith, length-append xs (x ∷ [])) in
    ap₂ (λ a b. a ++ (xs ++ b)) front back
    ∙ ap (λ y. take at area ++ y) (sym (append_snoc xs x (drop (suc j) area)))
    ∙ ap (λ n. take at area ++ ((xs ++ (x ∷ [])) ++ drop n area)) (sym e)
