-- The table of one part merged, and then those of the parts behind it.
-- Assumes nothing.
use Prim.Native.Nat.{ℕ, ◌+◌, ◌*◌, ◌≤◌, ◌<◌, min}
use mathlib.Core.Path.{◌≡◌, refl, sym, ap, ap₂, ◌∙◌}
use mathlib.Core.Bool.{Bool, true, false, cond}
use mathlib.Core.List.{List, [], ◌∷◌, ◌++◌}
use native.Mathlib.Numerals.{add-one}
use native.Mathlib.Omega.{arith}
use lib.ListN.{length, get_or, take, drop}
use lib.Seq.{drop-cons, take-take, length-take-le}
use Rattle.laws.specs.Numbers.{counting}
use Rattle.laws.proofs.Passing.{take_within, part-front}
use Rattle.tables.specs.declared.Table.{Table}
use Rattle.tables.specs.Tables.{Held, held_in, no_table}
use Rattle.tablemerging.specs.Merging.{merged, merged_all, picked_tables}
use Rattle.tablemerging.proofs.MergeLaws.{all_append, counting-at}
use Rattle.tablemerger.specs.Parts.{part_held}
use Rattle.tablemerger.proofs.MergeSteps.{merged-none}

-- the table of one part, of which n entries stand at the front of it: none where it is not picked
part-merged : (picked : Bool) (table : Table) (rest entries : List ℕ) (m n : ℕ) → m ≤ length rest
    → n ≡ cond picked (min table.length m) 0
    → merged table.infinity (take n rest) entries
    ≡ merged_all (cond picked (held_in table (take m rest) ∷ []) []) entries
unfolding merged_all
part-merged true table rest entries m n h e =
    let l = table.length in
    ap (λ es. merged table.infinity es entries)
    (ap (λ k. take k rest) e
    ∙ sym (take-take (min l m) m rest (omega arith))
    ∙ ap (λ k. take (min l k) (take m rest)) (sym (length-take-le m rest h))
    ∙ take_within l (take m rest))
part-merged false table rest entries m n h e =
    ap (λ k. merged table.infinity (take k rest) entries) e ∙ sym (merged-none table.infinity [] entries refl)

-- part k, at the front of what is left of the area, and those behind it
module _ (picked : List Bool) (tables : List Table) (room : ℕ) (area : List ℕ) where
  abbrev pub from_part : ℕ → List Held
  from_part k = picked_tables (λ k. get_or picked k false) (part_held tables room area) (drop k (counting 8 0))

  from_next : (k : ℕ) → k < 8
      → from_part k ≡ cond (get_or picked k false) (part_held tables room area k ∷ []) [] ++ from_part (k + 1)
  unfolding picked_tables
  from_next k h =
      ap (picked_tables (λ k. get_or picked k false) (part_held tables room area))
      (drop-cons (counting 8 0) k 0 h
      ∙ ap₂ ◌∷◌ (counting-at 8 k h) (ap (λ m. drop m (counting 8 0)) (sym (add-one k))))

  pub merged-next : (k m n : ℕ) (rest entries : List ℕ) → k < 8 → rest ≡ drop (k * room) area
      → m ≡ min room (length rest)
      → n ≡ cond (get_or picked k false) (min (get_or tables k no_table).length m) 0
      → merged_all (from_part (k + 1)) (merged (get_or tables k no_table).infinity (take n rest) entries)
      ≡ merged_all (from_part k) entries
  merged-next k m n rest entries h er em en =
      let p = get_or picked k false in
      let t = get_or tables k no_table in
      ap (merged_all (from_part (k + 1)))
      (part-merged p t rest entries m n (omega arith) en
      ∙ ap (λ part. merged_all (cond p (held_in t part ∷ []) []) entries) (part-front room area k m rest er em))
      ∙ sym (ap (λ hs. merged_all hs entries) (from_next k h) ∙ all_append _ (from_part (k + 1)) entries)
