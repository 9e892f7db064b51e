-- The stored pongs of a line by rank: where each stands in the ring, and its Hops.
-- Assumes nothing.
use Prim.Native.Nat.{ℕ, zero, suc, ◌+◌, ◌-◌, ◌≤◌, ◌<◌}
use mathlib.Core.Path.{◌≡◌, refl, sym, ap, ap₂, ◌∙◌}
use mathlib.Core.Bool.{Bool, true, false, cond, ◌&&◌, and-true}
use mathlib.Core.List.{List, [], ◌∷◌, map}
use native.Mathlib.Nat.{mod-lt}
use native.Mathlib.Omega.{arith}
use lib.Dec.{leb, ltb}
use lib.ListN.{length, get_or, length-map, get_or-map}
use borrow.Author.Tests.{le-leb, lt-leb, lt-ltb, ltb-true, ltb-false}
use Rattle.laws.specs.Tests.{all}
use Rattle.laws.specs.Ring.{back, places_before, ring_place, ring_fits, kept_places}
use Rattle.laws.proofs.RingScan.{places-length}
use Rattle.laws.proofs.Rings.{back_below, kept_at}
use Rattle.laws.proofs.Ranks.{each_at}
use Rattle.protocol.specs.declared.Pong.{Pong}
use Rattle.protocol.specs.declared.Line.{Line}
use Rattle.protocol.specs.Lines.{stored_pongs, is_other}
use Rattle.tables.specs.Tables.{table_in_order}
use Rattle.protocol.specs.Order.{empty_when_closed, low_hops, line_in_order}
use Rattle.protocol.specs.Pings.{ranked}
use Rattle.pongrings.specs.Ring.{place_for, hops_in, low_at}

-- the pong at a place of a ring
abbrev pub pong_in : List Pong → ℕ → Pong
pong_in pongs p = get_or pongs p (record { bytes = []; hops = 0; clock = 0 })

all-stored : (x : Line) → x.pongcount ≤ 10 → x.pongnext < 10
    → stored_pongs x ≡ map (pong_in x.pongs) (places_before 10 x.pongnext x.pongcount)
unfolding stored_pongs kept_places
all-stored x few within = rw (le-leb x.pongcount 10 few, lt-ltb x.pongnext 10 within)

-- ---- the Hops of the stored pongs, as the code walks them

low-whole : (x : Line) (hops : List ℕ) → hops ≡ hops_in x.pongs → x.pongcount ≤ 10 → x.pongnext < 10
    → low_at hops x.pongnext x.pongcount ≡ low_hops x
low-whole x hops e few within =
    ap (λ hs. low_at hs x.pongnext x.pongcount) e
    ∙ same x.pongnext x.pongcount
    ∙ ap (all (λ p. leb p.hops 7)) (sym (all-stored x few within))
  where
    same : (p n : ℕ)
        → low_at (hops_in x.pongs) p n ≡ all (λ p. leb p.hops 7) (map (pong_in x.pongs) (places_before 10 p n))
    same p zero = refl
    same p (suc n) =
        ap₂ (λ h b. leb h 7 && b)
        (each_at (λ k. (pong_in x.pongs k).hops) 0 10 (back 10 p) (back_below 10 (omega arith) p))
        (same (back 10 p) n)

-- the clauses of a line in order behind the first three
pub order-rest : (room : ℕ) (x : Line) (hops : List ℕ) → hops ≡ hops_in x.pongs → empty_when_closed x ≡ true
    → x.pongcount ≤ 10 → x.pongnext < 10 → (low : Bool) → low ≡ low_at hops x.pongnext x.pongcount
    → line_in_order room x ≡ (low && table_in_order room x.table)
unfolding line_in_order
order-rest room x hops e empty few within low at =
    rw (empty, le-leb x.pongcount 10 few, lt-ltb x.pongnext 10 within, and-true)
    (ap (λ b. b && table_in_order room x.table) (sym (at ∙ low-whole x hops e few within)))

-- with b the whole answer: Hops that pass are left behind, one that fails is the answer, and none left passes
module _ (hops : List ℕ) (p n i : ℕ) (b : Bool) (left : low_at hops p (n - i) ≡ b) where
  module _ (q : ℕ) (at : q ≡ back 10 p) (h : i < n) where
    next : (leb (get_or hops q 0) 7 && low_at hops q (n - (i + 1))) ≡ b
    next =
        let e : n - i ≡ suc (n - (i + 1)) = omega arith in
        ap (λ k. leb (get_or hops k 0) 7 && low_at hops k (n - (i + 1))) at ∙ sym (ap (low_at hops p) e) ∙ left

    pub low-on : get_or hops q 0 ≤ 7 → low_at hops q (n - (i + 1)) ≡ b
    low-on k = rw (le-leb (get_or hops q 0) 7 k) at next

    pub low-out : 7 < get_or hops q 0 → false ≡ b
    low-out k = rw (lt-leb (get_or hops q 0) 7 k) at next

  pub low_end : n ≤ i → true ≡ b
  low_end h = let e : n - i ≡ 0 = omega arith in sym (ap (low_at hops p) e) ∙ left

-- where a pong that is looked at has come too far, the whole answer is no
pub low_fails : (hops : List ℕ) (p n i q : ℕ) (b : Bool) → low_at hops p (n - i) ≡ b → q ≡ back 10 p → i < n
    → 7 < get_or hops q 0 → false ≡ b
low_fails hops p n i q b left at h k = low-out hops p n i b left q at h k

-- ---- the pong of a rank

ranked-none : (r : ℕ) (ps : List Pong) → length ps ≤ r → ranked r ps ≡ []
ranked-none r [] h = refl
ranked-none zero (p ∷ ps) h = absurd (omega arith)
ranked-none (suc r) (p ∷ ps) h = ranked-none r ps (omega arith)

ranked-some : (r : ℕ) (ps : List Pong) (d : Pong) → r < length ps → ranked r ps ≡ get_or ps r d ∷ []
ranked-some r [] d h = absurd (omega arith)
ranked-some zero (p ∷ ps) d h = refl
ranked-some (suc r) (p ∷ ps) d h = ranked-some r ps d (omega arith)

-- the pong at a place of a ring, if it is one
abbrev pub pong_at : List Pong → ℕ → List Pong
pong_at pongs place = cond (ltb place 10) (pong_in pongs place ∷ []) []

-- how many are stored, and the pong of a rank
stored-length : (x : Line) (fits : Bool) → ring_fits 10 x.pongnext x.pongcount ≡ fits
    → length (stored_pongs x) ≡ cond fits x.pongcount 0
unfolding stored_pongs kept_places
stored-length x true e =
    rw e
    (length-map (places_before 10 x.pongnext x.pongcount) (pong_in x.pongs)
    ∙ places-length 10 x.pongnext x.pongcount)
stored-length x false e = rw e

stored_at : (x : Line) (r : ℕ) → r < length (stored_pongs x)
    → get_or (stored_pongs x) r (pong_in x.pongs 0) ≡ pong_in x.pongs (ring_place 10 x.pongnext r)
unfolding stored_pongs
stored_at x r h =
    get_or-map (pong_in x.pongs) (kept_places 10 x.pongnext x.pongcount) r 0
    ∙ ap (pong_in x.pongs) (kept_at 10 x.pongnext x.pongcount r (rw length-map at h))

-- the pong of a rank stands at the place of that rank
pub ranked_for : (x : Line) (l k r : ℕ)
    → cond (is_other l k) (ranked r (stored_pongs x)) [] ≡ pong_at x.pongs (place_for l k x.pongcount x.pongnext r)
unfolding place_for
ranked_for x l k r = go (is_other l k) (ring_fits 10 x.pongnext x.pongcount) refl (ltb r x.pongcount) refl
  where
    go : (o f : Bool) → ring_fits 10 x.pongnext x.pongcount ≡ f → (d : Bool) → ltb r x.pongcount ≡ d
        → cond o (ranked r (stored_pongs x)) []
        ≡ pong_at x.pongs (cond (o && (f && d)) (ring_place 10 x.pongnext r) 10)
    go false f e d g = refl
    go true false e d g = ranked-none r (stored_pongs x) (omega (arith, stored-length x false e))
    go true true e false g =
        let past : x.pongcount ≤ r = ltb-false r x.pongcount g in
        ranked-none r (stored_pongs x) (omega (arith, stored-length x true e))
    go true true e true g =
        let h : r < x.pongcount = ltb-true r x.pongcount g in
        let there : r < length (stored_pongs x) = omega (arith, stored-length x true e) in
        let p : ring_place 10 x.pongnext r < 10 = mod-lt (x.pongnext + (10 - suc r)) (omega arith) in
        ranked-some r (stored_pongs x) (pong_in x.pongs 0) there
        ∙ ap (λ q. q ∷ []) (stored_at x r there)
        ∙ sym (rw (lt-ltb (ring_place 10 x.pongnext r) 10 p))
