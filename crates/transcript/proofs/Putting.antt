-- Texts put over an area, one behind another.
use Prim.Native.Nat.{ℕ, ◌+◌, ◌≤◌}
use mathlib.Core.Path.{◌≡◌, refl, sym, ap, ◌∙◌}
use mathlib.Core.List.{List, [], ◌++◌}
use native.Mathlib.Omega.{arith}
use lib.ListN.{length, length-append}
use Rattle.laws.specs.Parts.{over, Put}
use Rattle.laws.proofs.Over.{over-length}
use Rattle.laws.proofs.Text.{over_none, over_append}

-- `rest` is still to be put from `next` on, and then `text` stands from `at` on
pub record Left (at : ℕ) (text before : List ℕ) (next : ℕ) (rest area : List ℕ) : Type 0 where
  pub size : length area ≡ length before
  pub left : over next rest area ≡ over at text before
  pub place : next + length rest ≡ at + length text

pub left-start : (at : ℕ) (text area : List ℕ) → Left at text area at text area
left-start at text area = record { size = refl; left = refl; place = refl }

-- a part of it is put
pub left-on : {at : ℕ} {text before : List ℕ} {next : ℕ} {area after : List ℕ} {j : ℕ} (piece rest : List ℕ)
    → Left at text before next (piece ++ rest) area
    → Put next piece area after j → next + length piece ≤ length area → Left at text before j rest after
left-on {at} {text} {before} {next} {area} {after} {j} piece rest l p h =
    let m = p.moved in
    record {
      size = ap length p.written ∙ over-length next piece area h ∙ l.size;
      left =
          ap (λ k. over k rest after) m
          ∙ ap (λ a. over (next + length piece) rest a) p.written
          ∙ over_append next piece rest area h
          ∙ l.left;
      place = omega (arith, length-append piece rest, l.place);
    }

pub left_end : {at : ℕ} {text before : List ℕ} {next : ℕ} {area : List ℕ} → Left at text before next [] area
    → Put at text before area next
left_end {at} {text} {before} {next} {area} l =
    record { written = sym (over_none next area) ∙ l.left; moved = omega (arith, l.place) }
