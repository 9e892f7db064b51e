-- The order of refusals.
use mathlib.Core.Path.{◌≡◌, refl, sym, ◌∙◌}
use mathlib.Core.Bool.{Bool, true, false, cond, not}
use mathlib.Core.List.{List}
use Prim.Native.Nat.{ℕ, zero, suc, ◌<◌}
use native.Mathlib.Omega.{arith}
use lib.Dec.{eqb}
use lib.ListN.{length}
use borrow.Author.Tests.{le-leb, lt-leb, eqb-true, eqb-false, ne_eqb, not-true}
use Rattle.laws.proofs.Refusals.{no-refusal, answer_in}
use Rattle.groups.specs.Lines.{group_length}
use Rattle.groups.proofs.Ends.{no_end}
use Rattle.handshake.specs.declared.Group.{Group}
use Rattle.handshake.specs.Group.{group_rules, group_number, read_number, refused_group, group_from, read_group}
use Rattle.handshake.specs.Group.{asked_from, asked_with, understood}
use Rattle.handshake.specs.Claims.{EndFirst, AskedAsRead}

pub end-first : EndFirst
unfolding group_from group_number
end-first m h =
    let e : group_length m ≡ 0 = (no_end m).1 h in
    (λ l. rw (e, le-leb 4096 (length m) l), λ l. rw (e, lt-leb 4096 (length m) l))

-- what is handed back bears the refusal
bears : (f : ℕ) (g : Group) → g.answer ≡ 0 → (cond (eqb f 0) g (refused_group f)).answer ≡ f
bears f g z = go (eqb f 0) refl
  where
    go : (t : Bool) → eqb f 0 ≡ t → (cond t g (refused_group f)).answer ≡ f
    go true e = z ∙ sym (eqb-true f 0 e)
    go false e = refl

pub read_answer : (m : List ℕ) → (read_group m).answer ≡ read_number m
unfolding group_from
read_answer m = bears (read_number m) _ refl

-- a group that is read is whole
pub read_whole : (m : List ℕ) → (read_group m).answer ≡ 0 → 0 < group_length m
unfolding group_number
read_whole m e =
    let n = group_length m in
    let h = no-refusal (group_rules n (length m) (understood m n)) refl (sym (read_answer m) ∙ e) in
    positive n (eqb-false n 0 h.1.0)
  where
    positive : (n : ℕ) → (n ≡ 0 → ⊥) → 0 < n
    positive zero h = absurd (h refl)
    positive (suc n) h = omega arith

-- reading is refused with none of the numbers that come later
module _ (n size : ℕ) (ok : Bool) where
  pub not-two : eqb (group_number n size ok) 2 ≡ false
  unfolding group_number
  not-two = not-true _ (answer_in (λ k. not (eqb k 2)) (group_rules n size ok) refl refl)

  pub not-six : eqb (group_number n size ok) 6 ≡ false
  unfolding group_number
  not-six = not-true _ (answer_in (λ k. not (eqb k 6)) (group_rules n size ok) refl refl)

  pub not-ten : eqb (group_number n size ok) 10 ≡ false
  unfolding group_number
  not-ten = not-true _ (answer_in (λ k. not (eqb k 10)) (group_rules n size ok) refl refl)

pub asked_as_read : AskedAsRead
unfolding asked_from asked_with
asked_as_read m name room h =
    let e = read_answer m in
    let some : eqb (read_number m) 0 ≡ false = ne_eqb (read_number m) 0 (λ z. h (e ∙ z)) in
    rw (e, some, some, not-ten (group_length m) (length m) (understood m (group_length m)))
