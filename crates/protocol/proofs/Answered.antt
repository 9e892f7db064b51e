-- A hit that no rule refuses: its query was found, and has had fewer than 200 hits.
-- Assumes nothing.
use Prim.Native.Nat.{ℕ, ◌≤◌, ◌<◌}
use native.Mathlib.Omega.{arith}
use mathlib.Core.Path.{◌≡◌, refl, sym, ap, subst, ◌∙◌}
use mathlib.Core.Bool.{true, not}
use mathlib.Core.List.{List}
use borrow.Author.Tests.{leb-true, eqb-false}
use lib.Dec.{eqb}
use Rattle.laws.specs.Tests.{all}
use Rattle.laws.proofs.Refusals.{clash, NoRefusal, all_get_d}
use Rattle.protocol.specs.Memory.{hit_limit, Number, number_in, Query, Found, Absent, At, find, is_found, after_of}
use Rattle.protocol.specs.Memory.{hits_of, hits_fit}
use Rattle.protocol.specs.State.{Station, remembered, looked_up}
use Rattle.protocol.specs.Order.{in_order}
use Rattle.protocol.proofs.InOrder.{state_facts}
use Rattle.protocol.proofs.ByType.{hit_in}
use Rattle.protocol.proofs.Places.{none, found-index}

pub record FoundFew (s : Station) (n : Number) : Type 0 where
  pub who : ℕ
  pub hits : ℕ
  pub found : find (remembered s) n ≡ At (looked_up s n).after who hits
  pub few : hits < hit_limit

-- a count that was found is one of the state's
pub few-found : (qs : List Query) (n : Number) (after who hits : ℕ) → all (λ q. hits_fit q.hits) qs ≡ true
    → find qs n ≡ At after who hits → hits ≤ hit_limit
few-found qs n after who hits f e =
    let r = found-index qs n who hits after e in
    leb-true hits hit_limit
    (subst (λ (q : Query). hits_fit q.hits ≡ true) r.1 (all_get_d (λ q. hits_fit q.hits) qs after none f r.0))

pub found-few : (s : Station) → in_order s ≡ true → (m : List ℕ) → NoRefusal (hit_in s m) → FoundFew s (number_in m)
found-few s o m n = go (find (remembered s) (number_in m)) refl
  where
    go : (f : Found) → find (remembered s) (number_in m) ≡ f → FoundFew s (number_in m)
    go Absent e = absurd (clash (ap (λ (f : Found). not (is_found f)) e) n.1.1.0)
    go (At i a h) e =
        let most = few-found (remembered s) (number_in m) i a h (state_facts s o).hits e in
        let not200 : h ≡ hit_limit → ⊥
        = eqb-false h hit_limit (ap (λ (f : Found). eqb (hits_of f) hit_limit) (sym e) ∙ n.1.1.1.1.0) in
        record {
          who = a;
          hits = h;
          found = e ∙ ap (λ k. At k a h) (sym (ap after_of e));
          few = omega (arith, most, not200);
        }
