-- One call that brings bytes, from outside: where the message that was taken stands, and what is held then.
-- Assumes nothing.
use Prim.Native.Nat.{ℕ, zero, suc, ◌+◌, ◌-◌}
use native.Mathlib.Omega.{arith}
use mathlib.Core.Path.{◌≡◌, refl, sym, ap, ◌∙◌}
use mathlib.Core.Bool.{Bool, true, false, cond}
use mathlib.Core.Logic.{◌⊎◌, inl, inr}
use mathlib.Core.List.{List, [], ◌∷◌, ◌++◌}
use lib.Dec.{ltb}
use lib.ListN.{length, get_or, set, take}
use lib.Seq.{length-take-le}
use borrow.Author.Tests.{ltb-false}
use Rattle.laws.specs.Parts.{over}
use Rattle.laws.proofs.Refusals.{clash}
use Rattle.wire.specs.Header.{size_of}
use Rattle.protocol.specs.declared.Line.{Line}
use Rattle.protocol.specs.Lines.{nowhere}
use Rattle.protocol.specs.State.{Station, line_at}
use Rattle.protocol.specs.Outcomes.{Terms}
use Rattle.protocol.proofs.Matching.{line_set}
use Rattle.receiving.specs.Feeding.{Fed, extent_of, size_at_front, front_of, held_bytes, shut_line}
use Rattle.receiving.specs.Events.{unread}
use Rattle.receiving.specs.Calls.{in_all, held_count, fed, Places, FeedPlaces}
use Rattle.receiving.proofs.Extents.{front-past, front-splits}
use Rattle.receiving.proofs.Cases.{Passed, ByType, outcome}
use Rattle.receiving.proofs.ByCase.{of_feed, of_over, of_whole, typed-read, typed-other}
use Rattle.receiving.proofs.Calls.{taken-most}
use Rattle.receiving.proofs.CallsLeave.{over-joined}

-- a line of which nothing is held holds nothing where it is stored, and nothing past the lines
count-stored : (lines : List Line) (l : ℕ) (x : Line) → x.pending.count ≡ 0
    → (get_or (set lines l x) l nowhere).pending.count ≡ 0
count-stored [] l x e = refl
count-stored (y ∷ lines) zero x e = e
count-stored (y ∷ lines) (suc l) x e = count-stored lines l x e

module _ (s : Station) (l : ℕ) (bytes held : List ℕ) (t : Terms) (route : List ℕ) where
  abbrev h : ℕ
  h = held_count s l bytes held t route

  abbrev j : List ℕ
  j = in_all s l bytes held t route

  -- behind held bytes, the message is in one piece; where none are held, it is at the front of those brought
  in_held : Passed s l bytes held t route → extent_of j ≡ 0
      → take (size_at_front j) (over h (take (size_at_front j - h) bytes) held) ≡ front_of j
  in_held p e =
      let n : extent_of j ≡ 4 → ⊥ = λ f. omega arith in
      let past = front-past (held_bytes (line_at s l) held) bytes p.begun n in
      let long : length (take (size_at_front j - h) bytes) ≡ size_at_front j - h
      = length-take-le (size_at_front j - h) bytes (taken-most s l bytes held t route p n) in
      let same : size_at_front j ≡ h + length (take (size_at_front j - h) bytes) = omega (arith, p.counted) in
      ap (λ k. take k (over h (take (size_at_front j - h) bytes) held)) same
      ∙ over-joined h (take (size_at_front j - h) bytes) held (omega (arith, p.short, p.long))
      ∙ ap (λ k. held_bytes (line_at s l) held ++ take (size_at_front j - k) bytes) (sym p.counted)
      ∙ sym (front-splits (held_bytes (line_at s l) held) bytes p.begun n)

  -- none are held: all bytes are those brought
  in_brought : h ≡ 0 → take (size_at_front j) bytes ≡ front_of j
  in_brought z = ap (λ n. take (size_at_front j) (take n held ++ bytes)) (sym z)

  -- where it stands, by whether some were held
  abbrev standing : Bool → List ℕ
  standing b = cond b (cond b (over h (take (size_at_front j - h) bytes) held) held) bytes

  there : Passed s l bytes held t route → extent_of j ≡ 0 → (b : Bool) → ltb 0 h ≡ b
      → take (size_at_front j) (standing b) ≡ front_of j
  there p e true _ = in_held p e
  there p e false z = in_brought (let n = ltb-false 0 h z in omega arith)

  whole-size : extent_of j ≡ 0 → 23 + size_of j ≡ size_at_front j
  whole-size e = rw e

  abbrev TakenBy : Fed Station → Type 0
  TakenBy f =
      (f.within ≡ ltb 0 h)
      × (take (23 + size_of j) (cond f.within f.held bytes) ≡ front_of j)
      × ((line_at f.result.state l).pending.count ≡ 0)

  taken-by : (fed s l bytes held t route).waits ≡ false → unread (fed s l bytes held t route).result.answer ≡ false
      → ((fed s l bytes held t route).result.answer ≡ 5 → ⊥) → TakenBy (fed s l bytes held t route)
  taken-by =
      of_whole s l bytes held t route TakenBy
      (λ p _ e _. (
        refl,
        ap (λ n. take n (standing (ltb 0 h))) (whole-size e) ∙ there p e (ltb 0 h) refl,
        count-stored (outcome s l bytes held t route).state.lines l _ refl,
      ))

  places : Places s l bytes held t route
  places =
      record {
        taken = λ w u n. let q = taken-by w u n in record { within' = q.0; stands = q.1; dropped = q.2 };
        none = of_feed s l bytes held t route
            (λ f. (f.waits ≡ true) ⊎ ((unread f.result.answer ≡ true) ⊎ (f.result.answer ≡ 5))
            → f.within ≡ false)
            (λ _ _ _ _ _. refl)
            (λ _ _ _ _. refl)
            (λ _ _ _ _. refl)
            (λ _ _ _ b q. absurd (not-aside b q));
        alone = of_feed s l bytes held t route (λ f. f.waits ≡ false → h ≡ 0 → f.held ≡ held)
            (λ _ _ _ _ _ _. refl)
            (λ _ _ _ w _. absurd (clash refl w))
            (λ _ _ _ _ _. refl)
            (λ _ _ _ _ _ z. rw z);
        shut = of_over s l bytes held t route
            (λ f. length s.lines ≡ 8 → (line_at f.result.state l).pending ≡ record { count = 0; shut = true })
            (λ p _ _ z. ap (λ (x : Line). x.pending) (line_set s l (shut_line (line_at s l)) (omega (arith, p.line))));
      }
    where
      not-aside : ByType s l bytes held t route
          → (false ≡ true) ⊎ ((unread (outcome s l bytes held t route).answer ≡ true)
          ⊎ ((outcome s l bytes held t route).answer ≡ 5))
          → ⊥
      not-aside b (inl w) = clash w refl
      not-aside b (inr (inl u)) = clash u (typed-read _ b.answer)
      not-aside b (inr (inr e)) = typed-other _ 5 b.answer (omega arith, inl (omega arith)) e

pub feed-places : FeedPlaces
feed-places = places
