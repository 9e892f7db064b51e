-- What it is for a table to withhold a query, and how a loop over the keywords of a text finds it out.
use Prim.Native.Nat.{ℕ, ◌-◌, ◌≤◌, ◌<◌}
use mathlib.Core.Path.{◌≡◌, refl, sym, ap, ◌∙◌}
use mathlib.Core.Bool.{Bool, true, false, ◌||◌, false≢true}
use mathlib.Core.Logic.{◌↔◌, ◌⊎◌, inl, inr, ⊎_elim}
use mathlib.Core.List.{List, [], ◌∷◌}
use mathlib.Core.List.Memᴰ
use mathlib.Core.List.{Memᴰ}
use lib.Dec.{eqb, ltb}
use lib.ListN.{length, get_or, take, drop}
use borrow.Author.Tests.{eq-eqb, ne_eqb, eqb-true, lt-ltb, ltb-true}
use Rattle.laws.specs.Tests.{any}
use Rattle.laws.proofs.Refusals.{and_intro, or_left, or_right}
use Rattle.laws.proofs.Passing.{and_any}
use Rattle.keywords.specs.declared.cut.Cut.{Cut}
use Rattle.keywords.specs.Keywords.{keywords_of, cut_of}
use Rattle.keywords.specs.Hash.{hash_of, scaled}
use Rattle.keywords.proofs.CutLaws.{any_found, any-done}
use Rattle.keywords.proofs.PlaceLaws.{place-scaled}
use Rattle.tables.specs.Tables.{Held, settled}
use Rattle.tables.specs.Admission.{far, entry_of, stops, withholds, SomeKeywordStops}
use Rattle.tables.specs.Admission.{Withheld, WithheldExactly, UnsettledWithholdsNone}
use Rattle.tables.proofs.TestLaws.{either, both_true}

-- a test that holds of some element names one
module _ {A : Type 0} (f : A → Bool) where
  any_some : (xs : List A) → any f xs ≡ true → (x : A) × Memᴰ x xs × (f x ≡ true)
  any_some [] e = absurd (false≢true e)
  any_some (x ∷ xs) e =
      ⊎_elim (λ y. (x, Memᴰ.head refl, y))
      (λ y. let r = any_some xs y in (r.0, Memᴰ.tail r.1, r.2))
      (either (f x) (any f xs) e)

  some-any : (xs : List A) (x : A) → Memᴰ x xs → f x ≡ true → any f xs ≡ true
  some-any [] x m e = absurd (Memᴰ.not-nil m)
  some-any (y ∷ ys) x m e =
      ⊎_elim (λ z. or_left (f y) (any f ys) (ap f (sym z) ∙ e))
      (λ z. or_right (f y) (any f ys) (some-any ys x z e))
      (Memᴰ.cases_cons m)

pub some_keyword_stops : SomeKeywordStops
unfolding withholds
some_keyword_stops h keywords ttl = (
  any_some (λ k. stops h ttl (hash_of k)) keywords,
  λ w. some-any (λ k. stops h ttl (hash_of k)) keywords w.0 w.1 w.2,
)

far-says : (infinity ttl e : ℕ) → far infinity ttl e ≡ true → (e ≡ infinity) ⊎ (ttl < e)
far-says infinity ttl e t =
    ⊎_elim (λ y. inl (eqb-true e infinity y)) (λ y. inr (ltb-true ttl e y)) (either (eqb e infinity) (ltb ttl e) t)

says-far : (infinity ttl e : ℕ) → (e ≡ infinity) ⊎ (ttl < e) → far infinity ttl e ≡ true
says-far infinity ttl e t =
    ⊎_elim (λ y. or_left (eqb e infinity) (ltb ttl e) (eq-eqb e infinity y))
    (λ y. or_right (eqb e infinity) (ltb ttl e) (lt-ltb ttl e y))
    t

-- a table of whose entries `entry` gives each keyword's
module _ (h : Held) (entry : List ℕ → ℕ) (same : (k : List ℕ) → entry_of h (hash_of k) ≡ entry k) where
  module _ (keywords : List (List ℕ)) (ttl : ℕ) where
    withheld-says : withholds h keywords ttl ≡ true → Withheld h entry keywords ttl
    withheld-says e =
        let w = (some_keyword_stops h keywords ttl).0 e in
        let k = w.0 in
        let t = both_true (eqb h.table.mark settled) (far h.table.infinity ttl (entry_of h (hash_of k))) w.2 in
        let f = far-says h.table.infinity ttl (entry k) (rw (same k) at t.1) in
        (eqb-true h.table.mark settled t.0, (k, w.1, f))

    says-withheld : Withheld h entry keywords ttl → withholds h keywords ttl ≡ true
    says-withheld w =
        let k = w.1.0 in
        (some_keyword_stops h keywords ttl).1 (
          k,
          w.1.1,
          and_intro (eqb h.table.mark settled) (far h.table.infinity ttl (entry_of h (hash_of k)))
              (eq-eqb h.table.mark settled w.0)
              (rw (same k) (says-far h.table.infinity ttl (entry k) w.1.2)),
        )

    pub withheld_where : (withholds h keywords ttl ≡ true) ↔ Withheld h entry keywords ttl
    withheld_where = (withheld-says, says-withheld)

pub withheld-exactly : WithheldExactly
withheld-exactly h b l n =
    withheld_where h _ (λ k. ap (λ i. get_or h.entries i 0) (ap (λ m. scaled m (hash_of k)) n ∙ place-scaled b k l))

pub unsettled_withholds-none : UnsettledWithholdsNone
unfolding withholds
unsettled_withholds-none h keywords ttl u =
    sym (and_any (eqb h.table.mark settled) (λ k. far h.table.infinity ttl (entry_of h (hash_of k))) keywords)
    ∙ rw (ne_eqb h.table.mark settled u) refl

-- a loop at a text whose first cut is c: it has no keyword; or its first keyword is tested before those behind it
module _ (h : Held) (ttl : ℕ) (text : List ℕ) (c : Cut) (e : c ≡ cut_of text) where
  pub withholds-end : c.end ≤ c.start → withholds h (keywords_of text) ttl ≡ false
  unfolding withholds
  withholds-end s = any-done text c e (stops h ttl) s

  pub withholds-on : c.start < c.end → (hash : ℕ) (r : Bool)
      → hash ≡ hash_of (take (c.end - c.start) (drop c.start text))
      → r ≡ stops h ttl hash
      → withholds h (keywords_of text) ttl
      ≡ (r || withholds h (keywords_of (take (length text - c.end) (drop c.end text))) ttl)
  unfolding withholds
  withholds-on s hash r a b = any_found text c e (stops h ttl) s ∙ rw (b, a) refl
