-- Laws of texts put over an area one after the other.
use Prim.Native.Nat.{ℕ, ◌+◌, ◌≤◌, ◌<◌}
use mathlib.Core.Path.{◌≡◌, sym, ap, ◌∙◌}
use mathlib.Core.List.{List, ◌∷◌, ◌++◌, append_assoc}
use native.Mathlib.Omega.{arith}
use lib.ListN.{length, take, drop, set, length-append}
use lib.Seq.{drop-drop}
use borrow.Rule.Slice.PartMut.{put_mid}
use Rattle.laws.specs.Parts.{over, Put}
use Rattle.laws.proofs.Text.{over-set, put_then}
use Rattle.digits.specs.declared.Digits.{Digits}
use Rattle.digits.specs.Decimal.{decimal, digits_for}
use Rattle.digits.proofs.Spelling.{spelled, spelled-size}
use Rattle.xtry.specs.Pairs.{dot, colon}
use Rattle.xtry.specs.Writing.{octet_of, pair_text}
use Rattle.xtry.specs.declared.Pair.{Pair}

-- ---- a number behind the byte that leads it

-- the digits were copied behind the byte, to a part as long as they are
pub put-led_whole : (n at lead k : ℕ) (d : Digits) (area ys : List ℕ) → d ≡ digits_for n → at < length area
    → k ≡ d.size → ys ≡ take d.size d.bytes
    → Put at (lead ∷ decimal n) area (put_mid (at + 1) k (set area at lead) ys) (at + 1 + d.size)
put-led_whole n at lead k d area ys e h s y =
    let m : k ≡ length ys = s ∙ sym (spelled-size n e) ∙ ap length (sym y) in
    record {
      written =
          ap (λ z. take (at + 1) (set area at lead) ++ (ys ++ z))
          (drop-drop k (at + 1) (set area at lead) ∙ ap (λ j. drop (at + 1 + j) (set area at lead)) m)
          ∙ ap (λ x. over (at + 1) x (set area at lead)) (y ∙ spelled n e)
          ∙ over-set at lead (decimal n) area h;
      moved = omega (arith, spelled-size n e, ap length (spelled n e));
    }

-- ---- a pair

module _ (lead : ℕ) (p : Pair) where
  abbrev pub octet_text : ℕ → List ℕ
  octet_text k = decimal (octet_of p k)

  pub pair-text : (((((lead ∷ octet_text 0) ++ (dot ∷ octet_text 1)) ++ (dot ∷ octet_text 2)) ++ (dot ∷ octet_text 3))
      ++ (colon ∷ decimal p.port)) ≡ lead ∷ pair_text p
  unfolding pair_text
  pair-text = simp append_assoc

  pub pair_size : length (pair_text p) ≡ length (octet_text 0) + length (octet_text 1) + length (octet_text 2) + length
      (octet_text 3) + length (decimal p.port) + 4
  pair_size = omega (arith, simp length-append at (ap length pair-text))

  -- its five numbers, each put where the one before it ends
  pub pair_put : {at : ℕ} {a₀ a₁ a₂ a₃ a₄ a₅ : List ℕ} {i j k l n : ℕ} → at + 30 ≤ length a₀
      → Put at (lead ∷ octet_text 0) a₀ a₁ i → i ≤ at + 6
      → Put i (dot ∷ octet_text 1) a₁ a₂ j → j ≤ i + 6 → Put j (dot ∷ octet_text 2) a₂ a₃ k
      → k ≤ j + 6 → Put k (dot ∷ octet_text 3) a₃ a₄ l → l ≤ k + 6
      → Put l (colon ∷ decimal p.port) a₄ a₅ n → Put at (lead ∷ pair_text p) a₀ a₅ n
  pair_put room p₁ b₁ p₂ b₂ p₃ b₃ p₄ b₄ p₅ =
      rw (← pair-text)
      (put_then (put_then (put_then (put_then p₁ p₂ (omega arith)) p₃ (omega arith)) p₄ (omega arith)) p₅ (omega arith))
