-- Cases of an outcome: refused or not, of one type or another; and what it says that a message or an own query was let
-- in.
-- Assumes nothing.
use Prim.Native.Nat.{ℕ, zero, suc, ◌+◌, ◌/◌, ◌≤◌, ◌<◌}
use native.Mathlib.Omega.{arith}
use mathlib.Core.Path.{◌≡◌, refl, sym, ap, subst, ◌∙◌}
use mathlib.Core.Bool.{Bool, true, false, cond, not, ◌||◌}
use mathlib.Core.List.{List, [], ◌∷◌}
use lib.Dec.{eqb, ltb}
use lib.ListN.{length, get_or}
use lib.Seq.{set-get_or}
use borrow.Author.Tests.{eqb-true, eqb-false, ltb-true, ltb-false, not-false, not-true}
use Rattle.laws.specs.Tests.{first_of, all, any}
use Rattle.laws.proofs.Refusals.{clash, or_fst, or_snd, no-refusal, NoRefusal, answer_in, refusal_in}
use Rattle.laws.proofs.Rings.{map-get_or}
use Rattle.wire.specs.Header.{largest_message, kind_of, size_of}
use Rattle.protocol.specs.State.{Station, line_only, seen, looked_up, line_at, with_line}
use Rattle.protocol.specs.Memory.{Number, number_in}
use Rattle.protocol.specs.Lines.{line_numbers, each_line, nowhere}
use Rattle.protocol.specs.Order.{in_order}
use Rattle.protocol.specs.Outcomes.{Result, Outcome, Step, quiet, pick_result, refused_or, stored, unused}
use Rattle.protocol.specs.Calls.{opening_rules, closing_rules, not_open, short_route, other_room, unfit_areas}
use Rattle.protocol.specs.Calls.{early_rules, early, own_rules, own_answer}

module _ {S : Type 0} (P : Result S → Type 0) where
  pub of_pick : (b : Bool) (x y : Result S) → (b ≡ true → P x) → (b ≡ false → P y) → P (pick_result b x y)
  of_pick true x y f g = f refl
  of_pick false x y f g = g refl

  pub of_refused : (n : ℕ) (s : S) (route : List ℕ) (o : Result S)
      → (n ≡ 0 → P o) → ((n ≡ 0 → ⊥) → P (quiet n s route)) → P (refused_or n s route o)
  of_refused n s route o f g =
      of_pick (eqb n 0) o (quiet n s route) (λ e. f (eqb-true n 0 e)) (λ e. g (eqb-false n 0 e))

-- the answer of what may be refused; and where what follows is answered 0
module _ {S : Type 0} (n : ℕ) (s : S) (route : List ℕ) (o : Result S) where
  pub answer-refused : (refused_or n s route o).answer ≡ cond (eqb n 0) o.answer n
  answer-refused = go (eqb n 0)
    where
      go : (b : Bool) → (pick_result b o (quiet n s route)).answer ≡ cond b o.answer n
      go true = refl
      go false = refl

  pub answer-taken : o.answer ≡ 0 → (refused_or n s route o).answer ≡ n
  answer-taken e = of_refused (λ (r : Result S). r.answer ≡ n) n s route o (λ z. e ∙ sym z) (λ _. refl)

-- a state whose line is stored again as it stands is that state
pub stored-again : (s : Station) (l : ℕ) → with_line s l (line_at s l) ≡ s
stored-again s l i = record { room = s.room; lines = set-get_or s.lines l nowhere i; memory = s.memory }

-- what a message does, stored: refused by n, which leaves the state, or else what follows
module _ (P : Outcome → Type 0) (s : Station) (l : ℕ) (x : Number) where
  pub of_stored : (n : ℕ) (route : List ℕ) (r : Step)
      → (n ≡ 0 → P (stored s l x r)) → ((n ≡ 0 → ⊥) → P (quiet n s route))
      → P (stored s l x (refused_or n (line_only (line_at s l)) route r))
  of_stored n route r f g =
      of_refused (λ (r : Step). P (stored s l x r)) n _ route r f
      (λ ne. subst (λ (y : Station). P (quiet n y route)) (sym (stored-again s l)) (g ne))

-- n numbers, counted up from `from`: the one at a place; so the line's number at a place of the eight
unfoldable pub counting : ℕ → ℕ → List ℕ
counting zero from = []
counting (suc n) from = from ∷ counting n (suc from)

pub counted : (n from k : ℕ) → k < n → get_or (counting n from) k 0 ≡ from + k
unfolding counting
counted zero from k h = absurd (omega arith)
counted (suc n) from zero h = omega arith
counted (suc n) from (suc k) h = counted n (suc from) k (omega arith) ∙ omega arith

pub numbers-at : (k : ℕ) → k < 8 → get_or line_numbers k 0 ≡ k
unfolding counting
numbers-at k h = counted 8 0 k h ∙ omega arith

-- the flag of one line
pub each_line-at : (f : ℕ → Bool) (k : ℕ) → k ≤ 7 → get_or (each_line f) k false ≡ f k
each_line-at f k h = map-get_or f line_numbers k 0 false (omega arith) ∙ ap f (numbers-at k (omega arith))

-- refusals of which all use nothing, and some of which none do
pub all-unused : (cs : List (Bool × ℕ)) → all (λ c. unused c.1) cs ≡ true → (first_of cs ≡ 0 → ⊥)
    → unused (first_of cs) ≡ true
all-unused cs h n = refusal_in unused cs h n

pub none-unused : (cs : List (Bool × ℕ)) → all (λ c. not (unused c.1)) cs ≡ true → unused (first_of cs) ≡ false
none-unused cs h = not-true (unused (first_of cs)) (answer_in (λ n. not (unused n)) cs refl h)

-- a number that uses nothing is no 0
pub unused-some : (n : ℕ) → unused n ≡ true → n ≡ 0 → ⊥
unused-some n u z = clash (subst (λ k. unused k ≡ true) z u) refl

-- an open line
pub is_open : (s : Station) (l : ℕ) → not_open l (line_at s l).live ≡ false → (l ≤ 7) × ((line_at s l).live ≡ true)
is_open s l e =
    let h : l < 8 = ltb-true l 8 (not-false (ltb l 8) (or_fst (not (ltb l 8)) (not (line_at s l).live) e)) in
    (omega arith, not-false (line_at s l).live (or_snd (not (ltb l 8)) (not (line_at s l).live) e))

-- a closed one
pub is-closed : (s : Station) (l : ℕ) → (not (ltb l 8) || (line_at s l).live) ≡ false
    → (l ≤ 7) × ((line_at s l).live ≡ false)
is-closed s l e =
    let h : l < 8 = ltb-true l 8 (not-false (ltb l 8) (or_fst (not (ltb l 8)) (line_at s l).live e)) in
    (omega arith, or_snd (not (ltb l 8)) (line_at s l).live e)

same-room : (room out route : ℕ) → unfit_areas room out route ≡ false → route / 8 ≡ room
same-room room out route e =
    let other : Bool = not (eqb (route / 8) room) in
    let f : other ≡ false
    = or_snd (short_route route) other (or_snd (ltb out largest_message) (other_room room route) e) in
    eqb-true (route / 8) room (not-false (eqb (route / 8) room) f)

-- the refusals of an opening, a closing, and of a message before its type counts, of a state
abbrev pub opening_in : Station → ℕ → List (Bool × ℕ)
opening_in s l = opening_rules (in_order s) l (line_at s l).live

abbrev pub closing_in : Station → ℕ → List (Bool × ℕ)
closing_in s l = closing_rules (in_order s) l (line_at s l).live

abbrev pub early_in : Station → ℕ → List ℕ → ℕ → ℕ → List (Bool × ℕ)
early_in s l m out route = early_rules (in_order s) s.room out route l (line_at s l).live (length m) (size_of m)

-- and those of an own query
abbrev pub own_in : Station → List ℕ → List ℕ → ℕ → ℕ → List (Bool × ℕ)
own_in s number text out route =
    own_rules (in_order s) s.room out route (length text) (any (eqb 0) text) (looked_up s (number_in number))

-- a message that was let in: no early refusal
pub record LetIn (s : Station) (l : ℕ) (m : List ℕ) (route : ℕ) : Type 0 where
  pub order : in_order s ≡ true
  pub room : route / 8 ≡ s.room
  pub line : l ≤ 7
  pub live : (line_at s l).live ≡ true
  pub size : size_of m ≤ 4096
  pub whole : 23 + size_of m ≤ length m

pub let_in : (s : Station) (l : ℕ) (m : List ℕ) (out route : ℕ) → early s l m out route ≡ 0 → LetIn s l m route
unfolding early
let_in s l m out route e =
    let p : NoRefusal (early_in s l m out route) = no-refusal (early_in s l m out route) refl e in
    let o = is_open s l p.1.1.0 in
    record {
      order = not-false (in_order s) p.0;
      room = same-room s.room out route p.1.0;
      line = o.0;
      live = o.1;
      size = ltb-false 4096 (size_of m) p.1.1.1.1.0;
      whole = ltb-false (length m) (23 + size_of m) p.1.1.1.1.1.0;
    }

pub early-unused : (s : Station) (l : ℕ) (m : List ℕ) (out route : ℕ) → (early s l m out route ≡ 0 → ⊥)
    → unused (early s l m out route) ≡ true
unfolding early
early-unused s l m out route n = all-unused (early_in s l m out route) refl n

-- an own query that was taken
pub record AskedIn (s : Station) (number text : List ℕ) (route : ℕ) : Type 0 where
  pub order : in_order s ≡ true
  pub room : route / 8 ≡ s.room
  pub unseen : seen s (number_in number) ≡ false

pub asked_in : (s : Station) (number text : List ℕ) (out route : ℕ) → own_answer s number text out route ≡ 0
    → AskedIn s number text route
unfolding own_answer
asked_in s number text out route e =
    let p : NoRefusal (own_in s number text out route) = no-refusal (own_in s number text out route) refl e in
    let room = same-room s.room out route p.1.0 in
    record { order = not-false (in_order s) p.0; room = room; unseen = p.1.1.1.1.0 }

-- a message of one type is of no other
pub other-type : (m : List ℕ) (n k : ℕ) → eqb (kind_of m) n ≡ true → eqb n k ≡ false → eqb (kind_of m) k ≡ false
other-type m n k e f = ap (λ x. eqb x k) (eqb-true (kind_of m) n e) ∙ f
