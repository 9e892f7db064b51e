-- The lines that a taken query goes to (RULES 7.5, 8.3), of any state and any areas: open, let pass by what is held of
-- it, and for an arriving query another than its own and with a life of 2 or more.
-- Assumes nothing.
use Prim.Native.Nat.{ℕ, ◌-◌, ◌≤◌, ◌<◌}
use native.Mathlib.Omega.{arith}
use mathlib.Core.Path.{◌≡◌, sym, ◌∙◌, subst}
use mathlib.Core.Bool.{Bool, true, false, not, ◌&&◌}
use mathlib.Core.Logic.Iff
use mathlib.Core.Logic.{◌↔◌}
use mathlib.Core.List.{List}
use lib.Dec.{leb}
use lib.ListN.{length, get_or}
use borrow.Author.Tests.{eq-eqb}
use Rattle.laws.proofs.Words.{and_iff, no_iff, other_iff, most_iff}
use Rattle.wire.specs.Header.{kind_of, payload_of, query_type}
use Rattle.keywords.specs.Keywords.{keywords_of}
use Rattle.tables.specs.Admission.{withholds}
use Rattle.protocol.specs.State.{Station, line_at, held_at}
use Rattle.protocol.specs.Lines.{is_other}
use Rattle.protocol.specs.Outcomes.{Terms, Outcome, hands_up}
use Rattle.protocol.specs.Queries.{usual_limit, text_in, passes, goes_on}
use Rattle.protocol.specs.Periods.{life_left}
use Rattle.protocol.specs.Calls.{own_age, own_answer, own_taken, asking, message_outcome, own_outcome}
use Rattle.protocol.proofs.Outcomes.{of_refused, each_line-at, unused-some}
use Rattle.protocol.proofs.ByType.{of_query, of_message}
use Rattle.protocol.proofs.Arrived.{by-query}

module _ (s : Station) (route : List ℕ) where
  abbrev live : ℕ → Bool
  live k = (line_at s k).live

  abbrev held : ℕ → List ℕ → ℕ → Bool
  held k text ttl = withholds (held_at s k route) (keywords_of text) ttl

  passes_iff : (k : ℕ) (text : List ℕ) (ttl : ℕ)
      → (passes (live k) (held_at s k route) text ttl ≡ true) ↔ ((live k ≡ true) × (held k text ttl ≡ false))
  passes_iff k text ttl = and_iff (live k) (not (held k text ttl)) Iff.rfl (no_iff (held k text ttl))

  -- an arriving query: whatever refuses it answers no 0, and what is left is the query taken
  module _ (l : ℕ) (m : List ℕ) (t : Terms) (kind : kind_of m ≡ 0x80) where
    abbrev life : ℕ
    life = life_left usual_limit m

    abbrev text : List ℕ
    text = text_in (payload_of m)

    abbrev pass : ℕ → Bool
    pass k = passes (live k) (held_at s k route) text (life - 1)

    goes_iff : (k : ℕ) → (goes_on life l k (live k) (held_at s k route) text ≡ true)
        ↔ ((live k ≡ true) × (k ≡ l → ⊥) × (2 ≤ life) × (held k text (life - 1) ≡ false))
    goes_iff k =
        let far = and_iff (leb 2 life) (pass k) (most_iff 2 life) (passes_iff k text (life - 1)) in
        let r = and_iff (is_other l k) (leb 2 life && pass k) (other_iff k l) far in (
          (λ e. let v = r.0 e in (v.1.1.0, v.0, v.1.0, v.1.1.1)),
          (λ v. r.1 (v.1, (v.2, (v.0, v.3)))),
        )

    abbrev Goes : Outcome → Type 0
    Goes o = o.answer ≡ 0 → (k : ℕ) → k < 8 → (get_or o.to k false ≡ true)
        ↔ ((live k ≡ true) × (k ≡ l → ⊥) × (2 ≤ life) × (held k text (life - 1) ≡ false))

    pub query-goes : Goes (message_outcome s l m t route)
    query-goes =
        of_message Goes s l m route usual_limit t (λ n u z. absurd (unused-some n u z))
        (λ _. subst Goes (sym (by-query s l m t route usual_limit kind))
        (of_query Goes s l m route (λ n a r z. absurd (r.some z)) usual_limit (eq-eqb (kind_of m) query_type kind)
        (λ _ _ k h. let at = each_line-at (λ k. goes_on life l k (live k) (held_at s k route) text) k (omega arith) in
        ((λ z. (goes_iff k).0 (sym at ∙ z)), (λ v. at ∙ (goes_iff k).1 v)))))

  -- an own one
  module _ (number text : List ℕ) (out : ℕ) where
    abbrev Asked : Outcome → Type 0
    Asked o = o.answer ≡ 0 → (k : ℕ) → k < 8
        → (get_or o.to k false ≡ true) ↔ ((live k ≡ true) × (held k text usual_limit ≡ false))

    pub own-goes : Asked (own_outcome s number text out route)
    unfolding asking
    own-goes =
        of_refused (λ o. Asked (hands_up (own_age s number text out (length route)) o))
        (own_answer s number text out (length route)) s route
        (own_taken usual_limit s number text route)
        (λ _ _ k h. let at = each_line-at (λ k. passes (live k) (held_at s k route) text usual_limit) k (omega arith) in
        let p = passes_iff k text usual_limit in
        ((λ z. p.0 (sym at ∙ z)), (λ v. at ∙ p.1 v)))
        (λ ne z. absurd (ne z))
