-- What the stores of an update's messages leave.
use Prim.Native.Nat.{ℕ, ◌+◌, ◌-◌, ◌≤◌}
use mathlib.Core.Path.{◌≡◌, ap, ap₂, ◌∙◌}
use mathlib.Core.List.{List, [], ◌∷◌, ◌++◌, append_assoc}
use native.Mathlib.Omega.{arith}
use lib.ListN.{length, get_or, take, drop, length-append}
use lib.Seq.{sets}
use borrow.Rule.Slice.PartMut.{put_mid}
use Rattle.laws.specs.Bytes.{little_bytes}
use Rattle.laws.specs.Parts.{over}
use Rattle.laws.proofs.Over.{over-length}
use Rattle.laws.proofs.Writing.{written_next, stored_next, lent-part}
use Rattle.wire.specs.Header.{header, message, with_header}
use Rattle.wire.proofs.HeaderLaws.{header-length, header-room, message-stored}
use Rattle.tablemessages.specs.declared.Plan.{Plan}
use Rattle.tablemessages.specs.Writer.{update, reset_payload, patch_payload}
use Rattle.tablemessages.specs.Steps.{bits_by, patch_with}

module _ (number : List ℕ) (long : length number ≡ 16) (out mid : List ℕ) where
  pub reset-stored : (n infinity : ℕ) (bytes : List ℕ) → 29 ≤ length out → mid ≡ with_header number 0x30 1 0 6 out
      → bytes ≡ little_bytes 4 n
      → sets mid 23 (0 ∷ get_or bytes 0 0 ∷ get_or bytes 1 0 ∷ get_or bytes 2 0 ∷ get_or bytes 3 0 ∷ infinity ∷ [])
      ≡ over 0 (update number (reset_payload n infinity)) out
  reset-stored n infinity bytes h m e =
      ap (λ b. sets mid 23 (0 ∷ get_or b 0 0 ∷ get_or b 1 0 ∷ get_or b 2 0 ∷ get_or b 3 0 ∷ infinity ∷ [])) e
      ∙ message-stored number 0x30 1 0 (reset_payload n infinity) long out mid h m

  -- the five bytes before the data, then the data in the rest of the part, which was lent
  pub patch-stored : (p : Plan) (place bits n : ℕ) (d left : List ℕ) → length d ≡ n → bits ≡ bits_by p
      → 28 + n ≤ length out
      → mid ≡ with_header number 0x30 1 0 (5 + n) out
      → (all : List ℕ) → all ≡ sets mid 23 (1 ∷ place ∷ p.count ∷ 0 ∷ bits ∷ [])
      → left ≡ over 0 d (take (length all - 28) (drop 28 all))
      → put_mid 28 (length all - 28) all left ≡ over 0 (patch_with number p place d) out
  unfolding patch_with message
  patch-stored p place bits n d left e b h m all a f =
      let H : List ℕ = header number 0x30 1 0 (5 + n) in
      let five : List ℕ = 1 ∷ place ∷ p.count ∷ 0 ∷ bits ∷ [] in
      let r : 23 ≤ length out = omega arith in
      let g : length (H ++ five) ≡ 28 = length-append H five
      ∙ ap (λ x. x + 5) (header-length number 0x30 1 0 [] long (5 + n)) in
      let s : all ≡ over 0 (H ++ five) out =
      a ∙ stored_next 23 H five out mid (header-length number 0x30 1 0 [] long (5 + n)) (omega arith)
      (m ∙ header-room number 0x30 1 0 (5 + n) out r) in
      let q : length all ≡ length out = ap length s ∙ over-length 0 (H ++ five) out (omega arith) in
      let z : 5 + n ≡ length (patch_payload place p.count bits d) = omega arith in
      lent-part 28 (length all - 28) d all left (omega arith) (omega arith) f
      ∙ ap (over 28 d) s
      ∙ written_next 28 (H ++ five) d out g
      ∙ ap (λ x. over 0 x out) (append_assoc H five d
      ∙ ap₂ (λ x y. header number 0x30 1 0 x ++ (1 ∷ place ∷ p.count ∷ 0 ∷ y ∷ d)) z b)
