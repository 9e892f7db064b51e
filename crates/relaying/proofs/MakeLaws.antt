-- The answer and the output of a call, one law for each way out.
use Prim.Native.Nat.{ℕ, ◌+◌, ◌≤◌, ◌<◌}
use mathlib.Core.Path.{◌≡◌, refl, sym, ap, ap₂, ◌∙◌}
use mathlib.Core.Bool.{Bool, true, false, cond, not, ◌&&◌, and-true}
use mathlib.Core.List.{List, [], ◌∷◌, ◌++◌}
use native.Mathlib.Nat.{zero-add}
use native.Mathlib.Omega.{arith}
use lib.Dec.{eqb, ltb}
use lib.ListN.{length, get_or, take, drop}
use lib.Seq.{length-take-le}
use borrow.Author.Tests.{ne_eqb, lt-ltb, le-ltb, ltb-false}
use Rattle.laws.specs.Tests.{first_of}
use Rattle.laws.proofs.Refusals.{first_append, no-refusal}
use Rattle.laws.proofs.Rings.{map-get_or}
use Rattle.tables.specs.declared.Table.{Table}
use Rattle.tables.specs.Tables.{held_in, no_table, settled, good_length}
use Rattle.namearea.specs.Area.{names_in}
use Rattle.namearea.specs.Calls.{list_rules, list_answer}
use Rattle.nametable.specs.Table.{own_places, with_ones, table_answer}
use Rattle.nametable.proofs.TableLaws as own
use Rattle.tablemerging.specs.Merging.{relayed_entries, made_entries}
use Rattle.tablemerging.proofs.MergeLaws.{picked_same}
use Rattle.tablemerging.proofs.Words.{made-long}
use Rattle.tablemerger.specs.Parts.{part_held, part_tables}
use Rattle.protocol.specs.declared.Line.{Line}
use Rattle.protocol.specs.Lines.{line_numbers, is_other, line_in, tables_in, each_line, part_of, held_for}
use Rattle.protocol.proofs.Outcomes.{numbers-at, each_line-at}
use Rattle.protocol.specs.Queries.{usual_limit, infinity_written}
use Rattle.relaying.specs.declared.Made.{Made}
use Rattle.relaying.specs.Calls.{has_say, station_rules, other_tables, make_rules, make_answer, making, making_out}

module _ (order : Bool) (room : ℕ) (lines : List Line) (l : ℕ) (names : List ℕ) (n out route : ℕ) where
  abbrev early : ℕ
  early = first_of (station_rules order room route l (line_in lines l).live)

  abbrev answer : ℕ
  answer = make_answer order room lines l names n out route

  -- behind state, route area and line, the refusals are those of the table of the own names, with the Infinity that is
  -- written
  pub answer-is : answer ≡ cond (eqb early 0) (table_answer names n (infinity_written usual_limit) out) early
  unfolding make_answer table_answer
  answer-is =
      first_append (station_rules order room route l (line_in lines l).live)
      (list_rules names ++ ((not (good_length n), 14) ∷ (ltb out n, 2) ∷ []))
      refl
      ∙ rw (and-true (good_length n))

  pub early_refuses : (r : ℕ) → r ≡ early → (r ≡ 0 → ⊥) → r ≡ answer
  early_refuses r e h = sym (answer-is ∙ rw (← e, ne_eqb r 0 h))

  module _ (e : 0 ≡ early) where
    listed : answer
        ≡ cond (eqb (list_answer names) 0) (first_of (own.own_rules n (infinity_written usual_limit) out)) (list_answer names)
    listed = answer-is ∙ rw (← e) (own.answer-is names n (infinity_written usual_limit) out)

    pub list_refuses : (r : ℕ) → r ≡ list_answer names → (r ≡ 0 → ⊥) → r ≡ answer
    list_refuses r f h = sym (listed ∙ rw (← f, ne_eqb r 0 h))

    module _ (f : 0 ≡ list_answer names) where
      pub length_refuses : good_length n ≡ false → 14 ≡ answer
      length_refuses g = sym (listed ∙ rw (← f, g))

      pub short_refuses : good_length n ≡ true → out < n → 2 ≡ answer
      short_refuses g h = sym (listed ∙ rw (← f, g, lt-ltb out n h))

      pub none_refuses : good_length n ≡ true → n ≤ out → 0 ≡ answer
      none_refuses g h = sym (listed ∙ rw (← f, g, le-ltb out n h))

  -- a table that is made has room
  pub made-fits : 0 ≡ answer → n ≤ out
  unfolding make_answer
  made-fits e =
      ltb-false out n
      (no-refusal (make_rules order room route l (line_in lines l).live names n out) refl (sym e)).1.1.1.1.1.1.0

-- the tables that are picked by these flags are those of the other lines
pub others-picked : (room : ℕ) (lines : List Line) (l : ℕ) (route : List ℕ) (tables : List Table) (say : List Bool)
    → tables ≡ tables_in lines
    → say ≡ each_line (λ k. is_other l k && eqb (get_or tables k no_table).mark settled)
    → part_tables say tables room route ≡ other_tables room lines l route
others-picked room lines l route tables say et es =
    picked_same (λ k. get_or say k false) (has_say lines l) (part_held tables room route) (λ k. held_for room lines k route)
    8 0
    (λ k low high. ap₂ (λ b (t : Table). cond b (held_in t (part_of room k route) ∷ []) []) (flag k (omega arith))
    (table k (omega arith)))
  where
    table : (k : ℕ) → k < 8 → get_or tables k no_table ≡ (line_in lines k).table
    table k h =
        ap (λ ts. get_or ts k no_table) et
        ∙ map-get_or (λ k. (line_in lines k).table) line_numbers k 0 no_table h
        ∙ ap (λ j. (line_in lines j).table) (numbers-at k h)

    flag : (k : ℕ) → k < 8 → get_or say k false ≡ has_say lines l k
    flag k h =
        ap (λ bs. get_or bs k false) es
        ∙ each_line-at (λ k. is_other l k && eqb (get_or tables k no_table).mark settled) k (omega arith)
        ∙ ap (λ (t : Table). is_other l k && eqb t.mark settled) (table k h)

-- what a call gives
abbrev pub Gives : Bool → ℕ → List Line → ℕ → List ℕ → ℕ → List ℕ → List ℕ → Made → List ℕ → Type 0
Gives order room lines l names n out route told after =
    (told ≡ making usual_limit order room lines l names n (length out) (length route))
    × (after ≡ making_out usual_limit order room lines l names n out route)

module _ (order : Bool) (room : ℕ) (lines : List Line) (l : ℕ) (names : List ℕ) (n : ℕ) (out route : List ℕ) where
  abbrev number : ℕ
  number = make_answer order room lines l names n (length out) (length route)

  -- a refusal leaves the output as it was
  pub left_alone : (r : ℕ) → r ≡ number → (r ≡ 0 → ⊥)
      → Gives order room lines l names n out route (record { answer = r; infinity = 0 }) out
  unfolding making making_out
  left_alone r e h = (rw (← e, ne_eqb r 0 h), rw (← e, ne_eqb r 0 h))

  -- the first n bytes were lent, and came back as the table
  pub made : 0 ≡ number → (after : List ℕ)
      → after ≡ with_ones (own_places n (names_in names))
      (relayed_entries (infinity_written usual_limit) (length (take n out)) (other_tables room lines l route))
      → Gives order room lines l names n out route (record { answer = 0; infinity = infinity_written usual_limit })
      (after ++ drop n out)
  unfolding making making_out made_entries
  made e after ea =
      let infinity = infinity_written usual_limit in
      let hs = other_tables room lines l route in
      let fits = made-fits order room lines l names n (length out) (length route) e in
      let entries : after ≡ made_entries infinity n (names_in names) hs =
      ea
      ∙ ap (λ m. with_ones (own_places n (names_in names)) (relayed_entries infinity m hs)) (length-take-le n out fits) in
      let k : n ≡ 0 + length (made_entries infinity n (names_in names) hs) =
      sym (zero-add _ ∙ made-long infinity n (names_in names) hs) in
      (rw (← e), ap₂ (λ x m. x ++ drop m out) entries k ∙ sym (rw (← e)))
