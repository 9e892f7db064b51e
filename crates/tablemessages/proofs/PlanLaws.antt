-- The data that a plan writes.
use Prim.Native.Nat.{ℕ, ◌*◌, ◌/◌, ◌≤◌, ◌<◌}
use mathlib.Core.Path.{◌≡◌, ap, ◌∙◌}
use mathlib.Core.Bool.{Bool, true, false, cond}
use mathlib.Core.List.{List}
use native.Mathlib.Omega.{arith}
use lib.ListN.{length, get_or}
use Rattle.tables.specs.Patch.{packed}
use Rattle.tablemessages.specs.declared.Plan.{Plan}
use Rattle.tablemessages.specs.Writer.{raws}
use Rattle.tablemessages.specs.Steps.{Sound, raw_in, pair_in, base_by, data_by, data_length}
use Rattle.tablemessages.proofs.DataLaws.{data_length_lem, pair-at, single-at}

module _ (p : Plan) (old new : List ℕ) (s : Sound p old new) where
  pub plan-length : length (data_by p old new) ≡ data_length p.small (length new)
  unfolding data_by
  plan-length = data_length_lem new (base_by p old new) s.like p.small

  -- no more bytes than entries
  pub plan-short : length (data_by p old new) ≤ length new
  plan-short = go p.small plan-length
    where
      go : (t : Bool) → length (data_by p old new) ≡ data_length t (length new) → length (data_by p old new) ≤ length new
      go true e = omega arith
      go false e = omega arith

  -- 4 bits
  pub small-length : p.small ≡ true → length (data_by p old new) ≡ length new / 2
  small-length e = plan-length ∙ ap (λ t. data_length t (length new)) e

  pub small_at : p.small ≡ true → (j : ℕ) → j < length (data_by p old new) → get_or (data_by p old new) j 0 ≡ pair_in new
      (base_by p old new) (2 * j)
  unfolding data_by
  small_at e j h =
      ap (λ t. get_or (packed (cond t 4 8) (raws (cond t 4 8) new (base_by p old new))) j 0) e
      ∙ pair-at new (base_by p old new) s.like j (omega (arith, small-length e))

  -- 8 bits
  pub wide-length : p.small ≡ false → length (data_by p old new) ≡ length new
  wide-length e = plan-length ∙ ap (λ t. data_length t (length new)) e

  pub wide_at : p.small ≡ false → (j : ℕ) → j < length (data_by p old new)
      → get_or (data_by p old new) j 0 ≡ raw_in 256 (get_or new j 0) (get_or (base_by p old new) j 0)
  unfolding data_by
  wide_at e j h =
      ap (λ t. get_or (packed (cond t 4 8) (raws (cond t 4 8) new (base_by p old new))) j 0) e
      ∙ single-at new (base_by p old new) s.like j (omega (arith, wide-length e))
