-- Laws of the X-Try field of a group: what asking for it gives, as the answer with its pairs.
use Prim.Native.Nat.{ℕ, ◌≤◌}
use mathlib.Core.Path.{◌≡◌, refl, sym, ap, ◌∙◌}
use mathlib.Core.Bool.{Bool, true, false, cond, not, ◌||◌}
use mathlib.Core.List.{List, [], ◌∷◌}
use native.Mathlib.Omega.{arith}
use lib.Dec.{eqb}
use lib.ListN.{length, take}
use borrow.Author.Tests.{eqb-true, eqb-false, le-ltb}
use Rattle.laws.specs.Tests.{first_of, all}
use Rattle.laws.specs.Parts.{over}
use Rattle.laws.proofs.Over.{over-length, over-front}
use Rattle.groups.specs.Lines.{group_length}
use Rattle.fields.specs.Fields.{is_absent}
use Rattle.fields.proofs.FieldLaws.{absent-value}
use Rattle.xtry.specs.Pairs.{items_of, good_pair, pairs_from, pairs_of, read_answer, tried_of}
use Rattle.xtry.proofs.Items.{no_items}
use Rattle.handshake.specs.Group.{understood, read_number, fields_in, asked_from, asked_number, asked_with, ask_field}
use Rattle.handshake.specs.Group.{asked_out}
use Rattle.handshake.specs.Groups.{try_name}
use Rattle.handshake.specs.Tried.{try_value, group_answer, group_tried, tried_number}
use Rattle.handshake.specs.declared.Asked.{Asked}
use Rattle.handshake.proofs.Behind.{value-most}
use Rattle.std.proofs.Common.{Option, Some, None, unwrap_or}
use Rattle.answer.specs.declared.Refusal.{Refusal}
use Rattle.answer.specs.Numbers.{number_of}
use Rattle.handshake.specs.Group.{asked_for}
use Rattle.handshake.proofs.Order.{not-ten, read_answer as group-answer, read_whole}
use Rattle.handshake.proofs.HostsBehind.{refused-hosts}

none_tried : tried_of [] ≡ record { answer = 0; pairs = pairs_from [] }
unfolding tried_of read_answer pairs_of
none_tried = rw no_items

used-up : (good : Bool) (n : ℕ) → cond (eqb (first_of ((not good, 6) ∷ [])) 0 || eqb (first_of ((not good, 6) ∷ [])) 6) n
    0 ≡ n
used-up true n = refl
used-up false n = refl

-- ---- what asking gives, with an area of 4,096 bytes for the value

module _ (m area : List ℕ) (z : length area ≡ 4096) where
  abbrev n : ℕ
  n = group_length m

  abbrev value : List ℕ
  value = try_value m

  abbrev number : ℕ
  number = asked_number m try_name (length area)

  fits : length value ≤ length area
  fits = omega (arith, value-most m try_name)

  number_is : (t u : Bool) → eqb (read_number m) 0 ≡ t → is_absent try_name (fields_in m n) ≡ u → number
      ≡ first_of ((not t, read_number m) ∷ (u, 10) ∷ [])
  unfolding asked_from
  number_is t u e f = rw (e, f, le-ltb (length area) (length value) fits) refl

  -- a group that was understood
  tried_is : eqb (read_number m) 0 ≡ true
      → record { answer = (tried_of value).answer; used = n; pairs = (tried_of value).pairs } ≡ group_tried m
  unfolding group_tried group_answer tried_of read_answer
  tried_is e =
      let good = all good_pair (items_of value) in
      sym (rw e
      (ap (λ k. record {
        answer = first_of ((not good, 6) ∷ []);
        used = k;
        pairs = pairs_from (cond (eqb (first_of ((not good, 6) ∷ [])) 0) (pairs_of value) []);
      }) (used-up good n)))

  -- what was written can be read, and makes the hosts of the group
  abbrev pub Gives : Asked → List ℕ → Type 0
  Gives a o =
      (a.written ≤ length o)
      × (record {
        answer = tried_number a.answer (tried_of (take a.written o)).answer;
        used = a.used;
        pairs = (tried_of (take a.written o)).pairs;
      } ≡ group_tried m)

  gives : (t u : Bool) → eqb (read_number m) 0 ≡ t → is_absent try_name (fields_in m n) ≡ u
      → Gives (asked_with number n (length value)) (cond (eqb number 0) (over 0 value area) area)
  unfolding asked_with
  gives true false e f =
      rw (number_is true false e f)
      (omega (arith, over-length 0 value area (omega (arith, fits)), fits), rw (over-front value area) (tried_is e))
  gives true true e f =
      let none : value ≡ [] = absent-value try_name (fields_in m n) f in
      rw (number_is true true e f) (
        omega arith,
        ap (λ v. record { answer = (tried_of v).answer; used = n; pairs = (tried_of v).pairs }) (sym none)
            ∙ tried_is e,
      )
  gives false u e f =
      rw (number_is false u e f, e, not-ten n (length m) (understood m n))
      (omega arith, rw none_tried (sym (refused-hosts m (eqb-false (read_number m) 0 e))))

  pub ask-gives : (a : Asked) (o : List ℕ) → a ≡ ask_field m try_name (length area) → o ≡ asked_out m try_name area
      → Gives a o
  ask-gives a o e f = rw (e, f) (gives (eqb (read_number m) 0) (is_absent try_name (fields_in m n)) refl refl)

  -- a refusal of asking is one of reading, and the hosts are refused alike
  pub refused_asked : (refusal : Refusal)
      → record { answer = number_of refusal; used = 0; written = 0 } ≡ ask_field m try_name (length area)
      → record { answer = number_of refusal; used = 0; pairs = pairs_from [] } ≡ group_tried m
  unfolding asked_with
  refused_asked refusal e = go (eqb (read_number m) 0) (is_absent try_name (fields_in m n)) refl refl e
    where
      some : eqb (read_number m) 0 ≡ true → n ≡ 0 → ⊥
      some t z = let w = read_whole m (group-answer m ∙ eqb-true (read_number m) 0 t) in omega arith

      go : (t u : Bool) → eqb (read_number m) 0 ≡ t → is_absent try_name (fields_in m n) ≡ u
          → ◌≡◌ {A = Asked} (record { answer = number_of refusal; used = 0; written = 0 }) (asked_with number n (length value))
          → record { answer = number_of refusal; used = 0; pairs = pairs_from [] } ≡ group_tried m
      go true false a b k =
          absurd (some a (sym (ap (λ (x : Asked). x.used) (rw (number_is true false a b) at k))))
      go true true a b k = absurd (some a (sym (ap (λ (x : Asked). x.used) (rw (number_is true true a b) at k))))
      go false u a b k =
          let q = rw (number_is false u a b, a, not-ten n (length m) (understood m n)) at k in
          rw (ap (λ (x : Asked). x.answer) q) (sym (refused-hosts m (eqb-false (read_number m) 0 a)))

-- what was asked for, as a result of reading
pub asked-written : (used : ℕ) (written : Option ℕ) → (asked_for used written).written ≡ unwrap_or written 0
asked-written used (Some n) = refl
asked-written used None = refl

pub asked-used : (used : ℕ) (written : Option ℕ) → (asked_for used written).used ≡ used
asked-used used (Some n) = refl
asked-used used None = refl

pub asked-tried : (used tried : ℕ) (written : Option ℕ) → tried_number (asked_for used written).answer tried ≡ tried
asked-tried used tried (Some n) = refl
asked-tried used tried None = refl
