-- What stands in the part after an update is what the update made, and the rest stays.
use Prim.Native.Nat.{ℕ, ◌+◌, ◌≤◌}
use mathlib.Core.Path.{◌≡◌, refl, sym, ap, ◌∙◌}
use mathlib.Core.Bool.{Bool, true, false, cond}
use mathlib.Core.List.{List, ◌++◌}
use native.Mathlib.Omega.{arith}
use lib.ListN.{length, take, drop, replicate, length-take, length-drop, length-append, length-replicate}
use lib.Seq.{take_at, drop_at, drop-drop, length-take-le}
use borrow.Author.Tests.{leb-true}
use Rattle.laws.proofs.Over.{over-own, over-front_of, over-length, over-behind}
use Rattle.tables.specs.declared.Table.{Table}
use Rattle.tables.specs.Patch.{added}
use Rattle.tables.specs.Tables.{Held, held_in, at_rest, settled}
use Rattle.tables.specs.Updates.{length_in, infinity_in, bits_in, numbers_in, is_last, reset_tests, good_reset, reset_by}
use Rattle.tables.specs.Updates.{patch_by, onward, moved_on}
use Rattle.tables.specs.Updates.{updated, broken_by, part_with}
use Rattle.tables.proofs.TestLaws.{every_true}
use Rattle.tables.proofs.PatchFacts.{added-length, added-rest}
use Rattle.tables.proofs.AnswerLaws.{each_way}

-- what neither end of a PATCH changes in a table stays
pub moved_keeps : (f : Table → ℕ) (t : Table) (p : List ℕ)
    → f (at_rest settled t.length t.infinity) ≡ f t
    → f (onward t p) ≡ f t
    → f (moved_on t p) ≡ f t
unfolding moved_on
moved_keeps f t p a b = by (is_last p)
  where
    by : (z : Bool) → f (cond z (at_rest settled t.length t.infinity) (onward t p)) ≡ f t
    by true = a
    by false = b

pub moved_length : (t : Table) (p : List ℕ) → (moved_on t p).length ≡ t.length
moved_length t p = moved_keeps (λ u. u.length) t p refl refl

pub moved-infinity : (t : Table) (p : List ℕ) → (moved_on t p).infinity ≡ t.infinity
moved-infinity t p = moved_keeps (λ u. u.infinity) t p refl refl

-- a PATCH leaves as many entries as there were
pub patched-length : (h : Held) (p : List ℕ) → length (patch_by h p).entries ≡ length h.entries
unfolding patch_by
patched-length h p = simp (length-append, added-length, length-take, length-drop) (omega arith)

module _ (t : Table) (part : List ℕ) (ttl hops : ℕ) (p : List ℕ) where
  abbrev after : Held
  after = updated (length part) (held_in t part) ttl hops p

  after-refused : held_in (broken_by (held_in t part)).table (part_with (broken_by (held_in t part)) part)
      ≡ broken_by (held_in t part)
  unfolding broken_by
  after-refused = rw (over-own t.length part)

  after-reset : good_reset (length part) p ≡ true → held_in (reset_by p).table (part_with (reset_by p) part) ≡ reset_by p
  unfolding reset_by good_reset
  after-reset g =
      let w = leb-true (length_in p) (length part) (every_true (reset_tests (length part) p) g).1.1.1.0 in
      rw
      (over-front_of (length_in p) (replicate (length_in p) (infinity_in p)) part
      (simp (length-replicate, length-take) (omega arith)))

  after-patched : held_in (patch_by (held_in t part) p).table (part_with (patch_by (held_in t part) p) part)
      ≡ patch_by (held_in t part) p
  unfolding patch_by
  after-patched =
      rw (
        moved_length t p,
        over-front_of t.length (patch_by (held_in t part) p).entries part (patched-length (held_in t part) p),
      )

  refused-fits : 0 + length (broken_by (held_in t part)).entries ≤ length part
  unfolding broken_by
  refused-fits = simp length-take (omega arith)

  reset-fits : good_reset (length part) p ≡ true → 0 + length (reset_by p).entries ≤ length part
  unfolding reset_by good_reset
  reset-fits g =
      let w = leb-true (length_in p) (length part) (every_true (reset_tests (length part) p) g).1.1.1.0 in
      simp length-replicate (omega arith)

  pub held_after_lem : held_in after.table (part_with after part) ≡ after
  held_after_lem =
      each_way (length part) (held_in t part) ttl hops p (λ u. held_in u.table (part_with u part) ≡ u) after-refused
      after-reset (λ g u r. after-patched)

  -- the part keeps its length, and what is behind the entries stays
  pub keeps_part : length (part_with after part) ≡ length part
  keeps_part =
      over-length 0 after.entries part
      (each_way (length part) (held_in t part) ttl hops p (λ u. 0 + length u.entries ≤ length part)
      refused-fits reset-fits
      (λ g u r. rw (patched-length (held_in t part) p) (omega (arith, length-take t.length part))))

  pub keeps_behind : drop (length after.entries) (part_with after part) ≡ drop (length after.entries) part
  keeps_behind = over-behind after.entries part

-- ---- a PATCH leaves the entries before and behind its data as they are

pub patched-before : (h : Held) (p : List ℕ) → h.table.nextentry ≤ length h.entries
    → take h.table.nextentry (patch_by h p).entries ≡ take h.table.nextentry h.entries
unfolding patch_by
patched-before h p w =
    take_at
    (take h.table.nextentry h.entries)
    (added (bits_in p) (numbers_in p) (drop h.table.nextentry h.entries))
    h.table.nextentry
    (length-take-le h.table.nextentry h.entries w)

pub patched-behind : (h : Held) (p : List ℕ) → h.table.nextentry ≤ length h.entries
    → drop (h.table.nextentry + length (numbers_in p)) (patch_by h p).entries
    ≡ drop (h.table.nextentry + length (numbers_in p)) h.entries
unfolding patch_by
patched-behind h p w =
    let es = h.entries in
    let at = h.table.nextentry in
    let k = length (numbers_in p) in
    sym (drop-drop k at (take at es ++ added (bits_in p) (numbers_in p) (drop at es)))
    ∙ ap (drop k) (drop_at (take at es) (added (bits_in p) (numbers_in p) (drop at es)) at (length-take-le at es w))
    ∙ added-rest (bits_in p) (numbers_in p) (drop at es)
    ∙ drop-drop k at es
