-- When the writer answers 0, 2 and 14, in plain numbers.
use Prim.Native.Nat.{ℕ, ◌≤◌, ◌<◌}
use mathlib.Core.Path.{◌≡◌, refl, sym, ◌∙◌}
use mathlib.Core.Logic.{◌↔◌, ◌⊎◌, inl, inr, ⊎_elim}
use mathlib.Core.Bool.{Bool, true, false, false≢true}
use mathlib.Core.List.{List}
use native.Mathlib.Omega.{arith}
use native.Mathlib.Decide.{dec_le}
use lib.ListN.{length}
use Rattle.tablemessages.specs.Writer.{base_of, data_of, parts_of, messages_of, joined, writer_answer}
use Rattle.tablemessages.specs.Steps.{may_write}
use Rattle.tablemessages.proofs.GoodLaws.{GoodCall, call-to, call_of}
use Rattle.tablemessages.proofs.AnswerLaws.{bad-given, too_many, too_short, all-well}

module _ (number : List ℕ) (had : Bool) (old : List ℕ) (old_infinity : ℕ) (new : List ℕ) (infinity size : ℕ)
    (out : List ℕ) where
  abbrev answer : ℕ
  answer = writer_answer number had old old_infinity new infinity size (length out)

  abbrev good : Type 0
  good = GoodCall had old old_infinity new infinity size

  abbrev count : ℕ
  count = length (parts_of size (data_of new (base_of had old new infinity)))

  abbrev total : ℕ
  total = length (joined (messages_of number had old new infinity size))

  -- one of four
  outcome : ((good → ⊥) × (answer ≡ 14))
      ⊎ ((good × (255 < count) × (answer ≡ 14)) ⊎
      ((good × (count ≤ 255) × (length out < total) × (answer ≡ 2))
      ⊎ (good × (count ≤ 255) × (total ≤ length out) × (answer ≡ 0))))
  outcome = by (may_write had old old_infinity new infinity size) refl (dec_le count 255) (dec_le total (length out))
    where
      by : (t : Bool) → may_write had old old_infinity new infinity size ≡ t → Dec (count ≤ 255)
          → Dec (total ≤ length out)
          → ((good → ⊥) × (answer ≡ 14))
          ⊎ ((good × (255 < count) × (answer ≡ 14)) ⊎
          ((good × (count ≤ 255) × (length out < total) × (answer ≡ 2))
          ⊎ (good × (count ≤ 255) × (total ≤ length out) × (answer ≡ 0))))
      by false e a b =
          inl (
            λ g. false≢true (sym e ∙ call_of had old old_infinity new infinity size g),
            bad-given number had old old_infinity new infinity size out e,
          )
      by true e (no a) b =
          let h : 255 < count = omega arith in
          inr (inl (
            call-to had old old_infinity new infinity size e,
            h,
            too_many number had old old_infinity new infinity size out e h,
          ))
      by true e (yes a) (no b) =
          let h : length out < total = omega arith in
          inr (inr (inl (
            call-to had old old_infinity new infinity size e,
            a,
            h,
            too_short number had old old_infinity new infinity size out e a h,
          )))
      by true e (yes a) (yes b) =
          inr (inr (inr (
            call-to had old old_infinity new infinity size e,
            a,
            b,
            all-well number had old old_infinity new infinity size out e a b,
          )))

  pub fourteen-exactly : (answer ≡ 14) ↔ ((good × (count ≤ 255)) → ⊥)
  fourteen-exactly = (
    λ e w.
        ⊎_elim (λ x. x.0 w.0) (λ y. ⊎_elim (λ x. omega (arith, x.1, w.1))
        (λ z. ⊎_elim (λ x. omega (arith, x.3)) (λ x. omega (arith, x.3)) z) y) outcome,
    λ f. ⊎_elim (λ x. x.1)
        (λ y. ⊎_elim (λ x. x.2) (λ z. ⊎_elim (λ x. absurd (f (x.0, x.1))) (λ x. absurd (f (x.0, x.1))) z) y)
        outcome,
  )

  pub two-exactly : (answer ≡ 2) ↔ (good × (count ≤ 255) × (length out < total))
  two-exactly = (
    λ e.
        ⊎_elim (λ x. absurd (omega (arith, x.1)))
        (λ y. ⊎_elim (λ x. absurd (omega (arith, x.2)))
        (λ z. ⊎_elim (λ x. (x.0, x.1, x.2)) (λ x. absurd (omega (arith, x.3))) z) y)
        outcome,
    λ w. too_short number had old old_infinity new infinity size out (call_of had old old_infinity new infinity size
        w.0) w.1 w.2,
  )

  pub zero-exactly : (answer ≡ 0) ↔ (good × (count ≤ 255) × (total ≤ length out))
  zero-exactly = (
    λ e.
        ⊎_elim (λ x. absurd (omega (arith, x.1)))
        (λ y. ⊎_elim (λ x. absurd (omega (arith, x.2))) (λ z. ⊎_elim (λ x. absurd (omega (arith, x.3)))
        (λ x. (x.0, x.1, x.2)) z) y)
        outcome,
    λ w. all-well number had old old_infinity new infinity size out (call_of had old old_infinity new infinity size
        w.0) w.1 w.2,
  )
