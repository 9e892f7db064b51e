-- The plan that a good call makes: its data, its messages and its room are those that the definitions name.
use Prim.Native.Nat.{ℕ, ◌+◌, ◌-◌, ◌*◌, ◌/◌, ◌≤◌}
use mathlib.Core.Path.{◌≡◌, sym, ap, ap₂, ◌∙◌}
use mathlib.Core.Bool.{Bool, true, false, cond}
use mathlib.Core.List.{List, ◌++◌}
use native.Mathlib.Omega.{arith}
use lib.ListN.{length}
use Rattle.tables.specs.Patch.{packed}
use Rattle.tablemessages.specs.declared.Plan.{Plan}
use Rattle.tablemessages.specs.Writer.{base_of, all_near, raws, data_of, parts_of, run_from, update, reset_payload}
use Rattle.tablemessages.specs.Writer.{messages_of, joined}
use Rattle.tablemessages.specs.Steps.{Fits, data_length, data_by, left_of, all_by, reset_length}
use Rattle.tablemessages.proofs.DataLaws.{base-length, data_length_lem}
use Rattle.tablemessages.proofs.RunLaws.{parts-count, parts-joined, run_length}
use Rattle.tablemessages.proofs.GoodLaws.{GoodCall, call-few}

abbrev pub plan_of : Bool → ℕ → Bool → ℕ → ℕ → Plan
plan_of had infinity small size count =
    record { had = had; infinity = infinity; small = small; size = size; count = count }

-- all the messages of the plan are those of the definition
pub all_same : (had : Bool) (number old new : List ℕ) (infinity size : ℕ) (small : Bool) (count : ℕ)
    → small ≡ all_near new (base_of had old new infinity)
    → count ≡ length (parts_of size (data_of new (base_of had old new infinity)))
    → all_by number (plan_of had infinity small size count) old new ≡ joined (messages_of number had old new infinity size)
unfolding all_by left_of data_by data_of messages_of joined
all_same true number old new infinity size small count s k =
    ap₂ (λ t n. joined
    (run_from number 1 n (cond t 4 8) (parts_of size (packed (cond t 4 8) (raws (cond t 4 8) new old))))) s k
all_same false number old new infinity size small count s k =
    ap₂
    (λ t n. update number (reset_payload (length new) infinity)
    ++ joined (run_from number 1 n (cond t 4 8)
    (parts_of size (packed (cond t 4 8) (raws (cond t 4 8) new (base_of false old new infinity))))))
    s k

module _ (number : List ℕ) (sixteen : length number ≡ 16) (had : Bool) (old : List ℕ) (old_infinity : ℕ) (new : List ℕ)
    (infinity size : ℕ)
    (g : GoodCall had old old_infinity new infinity size)
    (small : Bool) (s : small ≡ all_near new (base_of had old new infinity)) where
  few : length new ≤ 65536
  few = call-few had old old_infinity new infinity size g

  pub base-like : length (base_of had old new infinity) ≡ length new
  base-like = base-length had old new infinity g.like

  pub data_count : length (data_of new (base_of had old new infinity)) ≡ data_length small (length new)
  unfolding data_of
  data_count =
      data_length_lem new (base_of had old new infinity) base-like (all_near new (base_of had old new infinity))
      ∙ ap (λ t. data_length t (length new)) (sym s)

  pub data_few : data_length small (length new) ≤ 65536
  data_few = go small
    where
      go : (t : Bool) → data_length t (length new) ≤ 65536
      go true = omega (arith, few)
      go false = few

  -- the count, as the code has it
  pub count_same : (d : ℕ) → d ≡ data_length small (length new)
      → (d + size - 1) / size ≡ length (parts_of size (data_of new (base_of had old new infinity)))
  count_same d e =
      ap (λ n. (n + size - 1) / size) (e ∙ sym data_count)
      ∙ sym (parts-count size g.some (length (data_of new (base_of had old new infinity)))
      (data_of new (base_of had old new infinity)) (omega arith))

  data_same : (count : ℕ) → data_by (plan_of had infinity small size count) old new ≡ data_of new
      (base_of had old new infinity)
  unfolding data_by data_of
  data_same count = ap (λ t. packed (cond t 4 8) (raws (cond t 4 8) new (base_of had old new infinity))) s

  left-length : (count : ℕ) → count ≡ length (parts_of size (data_of new (base_of had old new infinity)))
      → length (left_of number (plan_of had infinity small size count) 1
      (data_by (plan_of had infinity small size count) old new))
      ≡ 28 * count + length (data_of new (base_of had old new infinity))
  unfolding left_of
  left-length count k =
      let d = data_of new (base_of had old new infinity) in
      ap (λ l. length (joined (run_from number 1 count (cond small 4 8) (parts_of size l)))) (data_same count)
      ∙ run_length number count (cond small 4 8) 1 (parts_of size d) sixteen
      ∙ ap₂ (λ n l. 28 * n + length l) (sym k) (parts-joined size g.some (length d) d (omega arith))

  pub plan-fits : (count room : ℕ) → count ≡ length (parts_of size (data_of new (base_of had old new infinity)))
      → reset_length had + (28 * count + length (data_of new (base_of had old new infinity))) ≤ room
      → Fits number (plan_of had infinity small size count) old new room
  plan-fits count room k r =
      record {
        reset = omega arith;
        run =
            record {
              sound = record { like = base-like; close = λ t. sym s ∙ t };
              some = g.some;
              most = g.most;
              parts = ap (λ l. length (parts_of size l)) (data_same count) ∙ sym k;
              fits = omega (arith, left-length count k);
            };
        few = few;
      }
