-- Looking a number up, from outside: by whether the state is in order, and whether the number is found.
-- Assumes nothing.
use Prim.Native.Nat.{ℕ}
use native.Mathlib.Omega.{arith}
use mathlib.Core.Path.{◌≡◌, refl, sym, ap, ◌∙◌}
use mathlib.Core.Bool.{Bool, true, false}
use mathlib.Core.Logic.{◌↔◌}
use Rattle.laws.proofs.Refusals.{clash, all_get_d}
use Rattle.protocol.specs.declared.Finding.{Finding}
use Rattle.protocol.specs.Memory.{capacity, Number, Query, Found, Absent, At, lookup_of, find}
use Rattle.protocol.specs.State.{Station, remembered}
use Rattle.protocol.specs.Order.{in_order}
use Rattle.protocol.specs.Calls.{found_by, unfound, finding_by, looking_up}
use Rattle.protocol.proofs.InOrder.{fits_in, asker_iff, state_facts}
use Rattle.protocol.proofs.Places.{none, found-index, found-there}
use Rattle.ages.specs.LookUp.{RememberedAt, NotRemembered, IsAsker, FindingIs, LookUpExactly}
use Rattle.ages.proofs.Found.{after-below, found-stands, stands-found}

module _ (s : Station) (x : Number) where
  -- the three cases
  pub of_look-up : (P : Finding → Type 0)
      → (in_order s ≡ false → P (unfound 1))
      → (in_order s ≡ true → find (remembered s) x ≡ Absent → P (unfound 10))
      → (in_order s ≡ true → (n a h : ℕ) → find (remembered s) x ≡ At n a h → P (found_by a n))
      → P (looking_up s x)
  unfolding looking_up
  of_look-up P refused absent found = by (in_order s) refl (find (remembered s) x) refl
    where
      by : (o : Bool) → in_order s ≡ o → (f : Found) → find (remembered s) x ≡ f → P (finding_by o (lookup_of f))
      by false o f e = refused o
      by true o Absent e = absent o e
      by true o (At n a h) e = found o n a h e

  -- refused by n: nothing is told, where nothing stands
  refused-by : (n : ℕ) → (n ≡ 0 → ⊥) → (n ≡ 1) ↔ (in_order s ≡ false)
      → (n ≡ 10) ↔ ((in_order s ≡ true) × NotRemembered s x) → (in_order s ≡ true → NotRemembered s x)
      → FindingIs s x (unfound n)
  refused-by n some one ten absent =
      record {
        one = one;
        ten = ten;
        found = λ m a. (
          (λ e. absurd (some (ap (λ (f : Finding). f.answer) e))),
          (λ v. absurd (absent v.0 m a v.1)),
        );
        refused = λ _. (refl, refl);
        below = omega arith;
        asker = λ e. absurd (some e);
        place = λ e. absurd (some e);
      }

  not_in_order : in_order s ≡ false → FindingIs s x (unfound 1)
  not_in_order o =
      refused-by 1 (λ e. absurd (omega arith)) ((λ _. o), (λ _. refl))
      ((λ e. absurd (omega arith)), (λ v. absurd (clash v.0 o))) (λ z. absurd (clash z o))

  module _ (o : in_order s ≡ true) where
    stands : (n a : ℕ) (t : RememberedAt s x n a) → find (remembered s) x ≡ At n a t.hits
    stands n a t = stands-found s x n a (state_facts s o).twice t

    not_found : find (remembered s) x ≡ Absent → FindingIs s x (unfound 10)
    not_found e =
        refused-by 10 (λ e. absurd (omega arith)) ((λ e. absurd (omega arith)), (λ z. absurd (clash o z)))
        ((λ _. (o, absent)), (λ _. refl)) (λ _. absent)
      where
        absent : NotRemembered s x
        absent n a t =
            let z : ◌≡◌ {A = ℕ} 0 1 = cc (stands n a t) in
            omega arith

    module _ (n a h : ℕ) (e : find (remembered s) x ≡ At n a h) where
      is-asker : IsAsker s a
      is-asker =
          let r = found-index (remembered s) x a h n e in
          let fits = all_get_d (λ q. fits_in s q.asker) (remembered s) n none (state_facts s o).askers r.0 in
          (asker_iff s a).0 (ap (λ (q : Query). fits_in s q.asker) (sym r.1) ∙ fits)

      is_found : FindingIs s x (found_by a n)
      is_found =
          record {
            one = ((λ e. absurd (omega arith)), (λ z. absurd (clash o z)));
            ten = ((λ e. absurd (omega arith)), (λ v. absurd (v.1 n a (found-stands s x n a h e))));
            found = λ m b. (
              (λ f. (o, found-stands s x m b h (e ∙ ap (λ (f : Finding). At f.after f.asker h) f))),
              (λ v. let f = stands m b v.1 in cc),
            );
            refused = λ z. absurd (z refl);
            below = rw e at (after-below s x);
            asker = λ _. is-asker;
            place = λ _.
                let there = found-there capacity s.memory x n a h e in
                (ap (λ (q : Query). q.number) there, ap (λ (q : Query). q.asker) there);
          }

pub look-up-exactly : LookUpExactly
look-up-exactly s x = of_look-up s x (FindingIs s x) (not_in_order s x) (not_found s x) (is_found s x)
