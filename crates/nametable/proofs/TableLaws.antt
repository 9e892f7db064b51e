-- The answer and the output of a call, one law for each way out.
use Prim.Native.Nat.{ℕ, ◌+◌, ◌≤◌, ◌<◌}
use mathlib.Core.Path.{◌≡◌, refl, sym, ap, ap₂, ◌∙◌}
use mathlib.Core.Bool.{Bool, true, false, cond, not, ◌&&◌}
use mathlib.Core.List.{List, [], ◌∷◌, ◌++◌}
use native.Mathlib.Nat.{zero-add}
use native.Mathlib.Omega.{arith}
use lib.Dec.{eqb, ltb}
use lib.ListN.{length, take, drop, replicate, length-replicate}
use lib.Seq.{length-take-le}
use borrow.Author.Tests.{ne_eqb, lt-ltb, le-ltb}
use Rattle.laws.specs.Tests.{first_of}
use Rattle.laws.proofs.Refusals.{first_append}
use Rattle.tables.specs.Tables.{good_length, good_infinity}
use Rattle.namearea.specs.Area.{names_in}
use Rattle.namearea.specs.Calls.{list_rules, list_answer}
use Rattle.nametable.specs.Table.{own_places, with_ones, own_entries, table_answer, table_out}
use Rattle.nametable.proofs.MarkLaws.{ones_length}

-- a table has as many entries as are asked for
pub entries-length : (n infinity : ℕ) (names : List (List ℕ)) → length (own_entries n infinity names) ≡ n
unfolding own_entries
entries-length n infinity names = ones_length (own_places n names) (replicate n infinity) ∙ length-replicate n infinity

-- the tests behind those of the list
abbrev pub own_rules : ℕ → ℕ → ℕ → List (Bool × ℕ)
own_rules n infinity out = (not (good_length n && good_infinity infinity), 14) ∷ (ltb out n, 2) ∷ []

pub answer-is : (a : List ℕ) (n infinity out : ℕ)
    → table_answer a n infinity out ≡ cond (eqb (list_answer a) 0) (first_of (own_rules n infinity out)) (list_answer a)
unfolding table_answer list_answer
answer-is a n infinity out = first_append (list_rules a) (own_rules n infinity out) refl

-- what a call gives
abbrev pub Gives : List ℕ → ℕ → ℕ → List ℕ → ℕ → List ℕ → Type 0
Gives a n infinity out r after = (r ≡ table_answer a n infinity (length out)) × (after ≡ table_out a n infinity out)

module _ (a : List ℕ) (n infinity : ℕ) (out : List ℕ) where
  -- a refusal leaves the output as it was
  left_alone : (r : ℕ) → table_answer a n infinity (length out) ≡ r → (r ≡ 0 → ⊥) → Gives a n infinity out r out
  unfolding table_out
  left_alone r e h = (sym e, sym (rw (e, ne_eqb r 0 h)))

  pub list_refuses : (r : ℕ) → r ≡ list_answer a → (r ≡ 0 → ⊥) → Gives a n infinity out r out
  list_refuses r e h = left_alone r (answer-is a n infinity (length out) ∙ rw (← e, ne_eqb r 0 h)) h

  module _ (e : 0 ≡ list_answer a) where
    own : table_answer a n infinity (length out) ≡ first_of (own_rules n infinity (length out))
    own = answer-is a n infinity (length out) ∙ rw (← e)

    pub length_refuses : good_length n ≡ false → Gives a n infinity out 14 out
    length_refuses g = left_alone 14 (own ∙ rw g) (λ z. omega arith)

    module _ (g : good_length n ≡ true) where
      pub infinity_refuses : good_infinity infinity ≡ false → Gives a n infinity out 14 out
      infinity_refuses i = left_alone 14 (own ∙ rw (g, i)) (λ z. omega arith)

      module _ (i : good_infinity infinity ≡ true) where
        pub short_refuses : length out < n → Gives a n infinity out 2 out
        short_refuses h = left_alone 2 (own ∙ rw (g, i, lt-ltb (length out) n h)) (λ z. omega arith)

        -- the first n bytes were lent, and came back as the table
        pub made : n ≤ length out → (after : List ℕ)
            → after ≡ with_ones (own_places n (names_in a)) (replicate (length (take n out)) infinity)
            → Gives a n infinity out 0 (after ++ drop n out)
        unfolding table_out own_entries
        made h after ea =
            let answers : table_answer a n infinity (length out) ≡ 0 = own ∙ rw (g, i, le-ltb (length out) n h) in
            let entries : after ≡ own_entries n infinity (names_in a) =
            ea ∙ ap (λ m. with_ones (own_places n (names_in a)) (replicate m infinity)) (length-take-le n out h) in
            let k : n ≡ 0 + length (own_entries n infinity (names_in a)) =
            sym (zero-add _ ∙ entries-length n infinity (names_in a)) in
            (sym answers, ap₂ (λ l m. l ++ drop m out) entries k ∙ sym (rw answers))
