-- Laws of the loops over the pairs in use.
use Prim.Native.Nat.{ℕ, ◌+◌, ◌*◌, ◌≤◌, ◌<◌, min}
use mathlib.Core.Path.{◌≡◌, refl, sym, ap, ◌∙◌}
use mathlib.Core.Bool.{Bool, true, false}
use mathlib.Core.List.{List, [], ◌∷◌, ◌++◌, append-nil}
use native.Mathlib.Numerals.{add-one}
use native.Mathlib.Omega.{arith}
use borrow.Author.Tests.{le-leb, lt-leb, leb-true, leb-false}
use lib.Dec.{leb}
use lib.ListN.{length, get_or, take, drop, length-append, drop_of_length-le}
use lib.Seq.{take_all, drop-cons}
use Rattle.std.specs.List.{list_all}
use Rattle.laws.specs.Tests.{all}
use Rattle.laws.specs.Parts.{over, Put}
use Rattle.laws.proofs.Refusals.{and_fst}
use Rattle.laws.proofs.Text.{over_none, over_append}
use Rattle.xtry.specs.Pairs.{comma}
use Rattle.xtry.specs.Writing.{pair_text, pairs_text, pairs_in, has_port, can_write, led, led_size, led_over}
use Rattle.xtry.specs.declared.Pair.{Pair}
use Rattle.xtry.specs.declared.Pairs.{Pairs}

-- the library's test of all is ours
pub all-is : (f : Pair → Bool) (ps : List Pair) → all f ps ≡ list_all f ps
all-is f [] = refl
all-is f (p ∷ ps) = rw (all-is f ps)

-- ---- pairs behind a byte

-- each pair behind a byte is the byte and the pairs with commas between them
pub led-joined : (s : ℕ) (p : Pair) (ps : List Pair) → led s (p ∷ ps) ≡ s ∷ pairs_text (p ∷ ps)
unfolding led pairs_text
led-joined s p [] = ap (λ x. s ∷ x) (append-nil (pair_text p))
led-joined s p (q ∷ qs) = ap (λ x. s ∷ (pair_text p ++ x)) (led-joined comma q qs)

pub can-few : (pairs : Pairs) → can_write pairs ≡ true → pairs.count ≤ 32
unfolding can_write
can-few pairs h = leb-true pairs.count 32 (and_fst (leb pairs.count 32) (all has_port (pairs_in pairs)) h)

-- ---- the loop over the pairs in use

-- all but the first 32 places are none
pub in_use : (pairs : Pairs) → length pairs.pairs ≡ 32 → take (min pairs.count 32) pairs.pairs ≡ pairs_in pairs
in_use pairs e = go (leb pairs.count 32) refl
  where
    go : (t : Bool) → leb pairs.count 32 ≡ t → take (min pairs.count 32) pairs.pairs ≡ pairs_in pairs
    go true k =
        let h = leb-true pairs.count 32 k in
        let m : min pairs.count 32 ≡ pairs.count = omega arith in
        rw m
    go false k =
        let h = leb-false pairs.count 32 k in
        let m : min pairs.count 32 ≡ 32 = omega arith in
        rw (m, take_all 32 pairs.pairs (omega arith), take_all pairs.count pairs.pairs (omega arith))

-- what is read behind the last place
abbrev pub no_pair : Pair
no_pair = record { address = []; port = 0 }

-- the next pair, and those after it
pub next-pair : (ps : List Pair) (i : ℕ) → i < length ps → drop i ps ≡ get_or ps i no_pair ∷ drop (i + 1) ps
next-pair ps i h =
    drop-cons ps i no_pair h ∙ ap (λ m. get_or ps i no_pair ∷ drop m ps) (sym (add-one i))

-- the pairs before the i-th are written, the first behind s, up to place `to`, and the next one stands behind `lead`
pub record Listing (ps : List Pair) (s : ℕ) (before area : List ℕ) (to lead i : ℕ) : Type 0 where
  pub small : to ≤ 30 * i
  pub size : length area ≡ length before
  pub place : to + length (led lead (drop i ps)) ≡ length (led s ps)
  pub left : over to (led lead (drop i ps)) area ≡ over 0 (led s ps) before

pub listing_start : (ps : List Pair) (s : ℕ) (area : List ℕ) → Listing ps s area area 0 s 0
listing_start ps s area = record { small = omega arith; size = refl; place = omega arith; left = refl }

module _ {ps : List Pair} {s : ℕ} {before area : List ℕ} {to lead i : ℕ} (l : Listing ps s before area to lead i)
    (few : length ps ≤ 32) (room : 960 ≤ length before) where
  pub listing_end : (pairs : Pairs) → ps ≡ pairs_in pairs → i ≡ length ps
      → (to ≡ led_size s pairs (length before)) × ((area ≡ led_over s pairs before) × (to ≤ 960))
  unfolding led
  listing_end pairs e h =
      let z : led lead (drop i ps) ≡ [] = ap (led lead) (drop_of_length-le ps {i = i} (omega arith)) in
      let most = le-leb 960 (length before) room in
      let written = sym (over_none to area) ∙ ap (λ x. over to x area) (sym z) ∙ l.left in
      rw (← e) (
        rw most (omega (arith, ap length z, l.place)),
        (rw most written, omega (arith, l.small)),
      )

  -- the next pair has room
  pub listing_room : i < length ps → to + 30 ≤ length area
  listing_room h = omega (arith, l.small, l.size)

  module _ (h : i < length ps) (p : Pair) (is : drop i ps ≡ p ∷ drop (i + 1) ps) where
    abbrev text : List ℕ
    text = lead ∷ pair_text p

    abbrev rest : List ℕ
    rest = led comma (drop (i + 1) ps)

    more : led lead (drop i ps) ≡ text ++ rest
    unfolding led
    more = rw is

    pub listing_on : {after : List ℕ} {next : ℕ} → length after ≡ length area → Put to text area after next
        → next ≤ to + 30
        → Listing ps s before after next 44 (i + 1)
    listing_on {after} {next} z q b =
        record {
          small = omega (arith, l.small);
          size = z ∙ l.size;
          place = omega (arith, q.moved, l.place, ap length more, length-append text rest);
          left =
              ap (λ m. over m rest after) q.moved
              ∙ ap (λ a. over (to + length text) rest a) q.written
              ∙ over_append to text rest area (omega (arith, listing_room h, q.moved))
              ∙ ap (λ x. over to x area) (sym more)
              ∙ l.left;
        }

-- no room
pub led-none : (pairs : Pairs) (s : ℕ) (area : List ℕ) → length area < 960 → (0 ≡ led_size s pairs (length area))
    × ((area ≡ led_over s pairs area) × (0 ≤ 960))
led-none pairs s area h = let f = lt-leb 960 (length area) h in (rw f, (rw f, omega arith))
