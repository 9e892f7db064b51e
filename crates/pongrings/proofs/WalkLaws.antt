-- The walk over the other lines' pongs, one turn after another: the turns that are made, and those that are left.
-- Assumes nothing.
use Prim.Native.Nat.{ℕ, zero, suc, ◌+◌, ◌-◌, ◌*◌, ◌/◌, ◌%◌, ◌≤◌, ◌<◌, min, max}
use mathlib.Core.Path.{◌≡◌, refl, sym, ap, ap₂, ◌∙◌}
use mathlib.Core.Bool.{Bool, true, false, cond, ◌&&◌}
use mathlib.Core.List.{List, [], ◌∷◌, ◌++◌, map, append_assoc, append-nil}
use native.Mathlib.Numerals.{add-one}
use native.Mathlib.Omega.{arith}
use lib.ListN.{length, get_or, take, drop, drop_of_length-le}
use lib.Seq.{drop-cons, take_all, take-append-le}
use borrow.Author.Tests.{le-leb, lt-ltb, le-ltb}
use Rattle.laws.specs.Ring.{ring_fits, ring_place}
use Rattle.protocol.specs.declared.Pong.{Pong}
use Rattle.protocol.specs.declared.Line.{Line}
use Rattle.protocol.specs.Lines.{is_other, line_in, line_numbers, stored_pongs}
use Rattle.protocol.proofs.EachLine.{each-is}
use Rattle.protocol.specs.Pings.{flat, keep_if, is_fresh, ranked, walk, stored_sent}
use Rattle.pongrings.specs.Ring.{if_fresh, counts_in, nexts_in, rings_in, place_for, largest}
use Rattle.pongrings.proofs.RingLaws.{pong_in, pong_at, ranked_for}

module _ {A : Type 0} where
  flat_append : (xs ys : List (List A)) → flat (xs ++ ys) ≡ flat xs ++ flat ys
  flat_append [] ys = refl
  flat_append (x ∷ xs) ys = ap (λ l. x ++ l) (flat_append xs ys) ∙ sym (append_assoc x (flat xs) (flat ys))

  keep_append : (f : A → Bool) (xs ys : List A) → keep_if f (xs ++ ys) ≡ keep_if f xs ++ keep_if f ys
  keep_append f [] ys = refl
  keep_append f (x ∷ xs) ys = go (f x) (keep_append f xs ys)
    where
      go : (b : Bool) → keep_if f (xs ++ ys) ≡ keep_if f xs ++ keep_if f ys
          → cond b (x ∷ keep_if f (xs ++ ys)) (keep_if f (xs ++ ys))
          ≡ cond b (x ∷ keep_if f xs) (keep_if f xs) ++ keep_if f ys
      go true on = ap (λ l. x ∷ l) on
      go false on = on

  -- a row of turns, h being what each gives: those left out give nothing
  keep_row : (f : A → Bool) (g h : ℕ → List A) (t : ℕ → Bool) → ((k : ℕ) → cond (t k) (g k) [] ≡ h k) → (ks : List ℕ)
      → keep_if f (flat (map g (keep_if t ks))) ≡ flat (map (λ k. keep_if f (h k)) ks)
  keep_row f g h t same [] = refl
  keep_row f g h t same (k ∷ ks) = go (t k) (same k) (keep_row f g h t same ks)
    where
      go : (b : Bool) → cond b (g k) [] ≡ h k
          → keep_if f (flat (map g (keep_if t ks))) ≡ flat (map (λ k. keep_if f (h k)) ks)
          → keep_if f (flat (map g (cond b (k ∷ keep_if t ks) (keep_if t ks))))
          ≡ keep_if f (h k) ++ flat (map (λ k. keep_if f (h k)) ks)
      go true e on = keep_append f (g k) (flat (map g (keep_if t ks))) ∙ ap₂ (λ x y. keep_if f x ++ y) e on
      go false e on = ap₂ (λ x y. keep_if f x ++ y) e on

  -- row after row
  keep-rows : (f : A → Bool) (g h : ℕ → ℕ → List A) (t : ℕ → Bool)
      → ((r k : ℕ) → cond (t k) (g r k) [] ≡ h r k) → (ks rs : List ℕ)
      → keep_if f (flat (map (λ r. flat (map (g r) (keep_if t ks))) rs))
      ≡ flat (flat (map (λ r. map (λ k. keep_if f (h r k)) ks) rs))
  keep-rows f g h t same ks [] = refl
  keep-rows f g h t same ks (r ∷ rs) =
      keep_append f (flat (map (g r) (keep_if t ks))) (flat (map (λ r. flat (map (g r) (keep_if t ks))) rs))
      ∙ ap₂ ◌++◌ (keep_row f (g r) (h r) t (same r) ks) (keep-rows f g h t same ks rs)
      ∙ sym (flat_append (map (λ k. keep_if f (h r k)) ks) (flat (map (λ r. map (λ k. keep_if f (h r k)) ks) rs)))

-- the place of a rank that another line keeps; a rank past the count has none
pub place_kept : (l k count next rank : ℕ) → is_other l k ≡ true → count ≤ 10 → next < 10 → rank < count
    → place_for l k count next rank ≡ ring_place 10 next rank
unfolding place_for
place_kept l k count next rank o c n r = rw (o, le-leb count 10 c, lt-ltb next 10 n, lt-ltb rank count r)

none-past : (l k count next rank : ℕ) → count ≤ rank → place_for l k count next rank ≡ 10
unfolding place_for
none-past l k count next rank h = rw (le-ltb rank count h) (go (is_other l k) (ring_fits 10 next count))
  where
    go : (a b : Bool) → cond (a && (b && false)) (ring_place 10 next rank) 10 ≡ 10
    go true true = refl
    go true false = refl
    go false b = refl

-- none of the numbers is above the largest
largest-all : (ns : List ℕ) (k : ℕ) → get_or ns k 0 ≤ largest ns
unfolding largest
largest-all [] k = omega arith
largest-all (n ∷ ns) zero = omega arith
largest-all (n ∷ ns) (suc k) = let h = largest-all ns k in omega arith

-- the largest of those from place k on
pub largest-on : (ns : List ℕ) (k : ℕ) → k < length ns
    → largest (drop k ns) ≡ max (get_or ns k 0) (largest (drop (k + 1) ns))
unfolding largest
largest-on ns k h =
    ap largest (drop-cons ns k 0 h) ∙ ap (λ j. max (get_or ns k 0) (largest (drop j ns))) (sym (add-one k))

pub largest-end : (ns : List ℕ) (k : ℕ) → length ns ≤ k → largest (drop k ns) ≡ 0
unfolding largest
largest-end ns k h = ap largest (drop_of_length-le ns h)

-- what a walk reads: the counts, the next places and the rings of the lines; and for whom, and when
pub record Walk : Type 0 where
  pub counts : List ℕ
  pub nexts : List ℕ
  pub rings : List (List Pong)
  pub line : ℕ
  pub clock : ℕ

abbrev pub walk_of : List ℕ → List ℕ → List (List Pong) → ℕ → ℕ → Walk
walk_of counts nexts rings line clock =
    record { counts = counts; nexts = nexts; rings = rings; line = line; clock = clock }

abbrev pub walk_over : List Line → ℕ → ℕ → Walk
walk_over lines line clock = walk_of (counts_in lines) (nexts_in lines) (rings_in lines) line clock

module _ (w : Walk) where
  -- where the pong of turn i stands, which is line i % 8's of rank i / 8; and what the turn gives
  abbrev pub place_at : ℕ → ℕ
  place_at i = place_for w.line (i % 8) (get_or w.counts (i % 8) 0) (get_or w.nexts (i % 8) 0) (i / 8)

  abbrev pub turn_at : ℕ → List Pong
  turn_at i = keep_if (is_fresh w.clock) (pong_at (get_or w.rings (i % 8) []) (place_at i))

  -- what the first i turns give, and n turns from turn i on
  unfoldable pub turned : ℕ → List Pong
  turned zero = []
  turned (suc i) = turned i ++ turn_at i

  unfoldable left_from : ℕ → ℕ → List Pong
  left_from zero i = []
  left_from (suc n) i = turn_at i ++ left_from n (i + 1)

  pub turned-next : (i : ℕ) → turned (i + 1) ≡ turned i ++ turn_at i
  unfolding turned
  turned-next i = ap turned (add-one i)

  parted : (i : ℕ) → i ≤ 80 → left_from 80 0 ≡ turned i ++ left_from (80 - i) i
  unfolding turned left_from
  parted zero h = refl
  parted (suc i) h =
      let e : 80 - i ≡ suc (80 - suc i) = omega arith in
      parted i (omega arith)
      ∙ ap (λ n. turned i ++ left_from n i) e
      ∙ sym (append_assoc (turned i) (turn_at i) (left_from (80 - suc i) (i + 1)))
      ∙ ap (λ j. (turned i ++ turn_at i) ++ left_from (80 - suc i) j) (add-one i)

  module _ (i place : ℕ) (at : place ≡ place_at i) where
    pub turn-none : 10 ≤ place → turn_at i ≡ []
    turn-none h = rw (← at, le-ltb place 10 h)

    pub turn-some : place < 10 → turn_at i ≡ if_fresh w.clock (pong_in (get_or w.rings (i % 8) []) place)
    turn-some h = rw (← at, lt-ltb place 10 h)

  -- past the largest count a turn gives nothing, and so do all that are left
  left-past : (n i : ℕ) → i + n ≤ 80 → min 10 (largest w.counts) ≤ i / 8 → left_from n i ≡ []
  unfolding left_from
  left-past zero i h m = refl
  left-past (suc n) i h m =
      let big = largest-all w.counts (i % 8) in
      let none =
      none-past w.line (i % 8) (get_or w.counts (i % 8) 0) (get_or w.nexts (i % 8) 0) (i / 8) (omega arith) in
      ap₂ ◌++◌ (turn-none i 10 (sym none) (omega arith)) (left-past n (i + 1) (omega arith) (omega arith))

-- all turns give what is fresh of the walk over the lines
line-turns : (lines : List Line) (l clock : ℕ)
    → keep_if (is_fresh clock) (walk lines l) ≡ left_from (walk_over lines l clock) 80 0
unfolding walk left_from
line-turns lines l clock =
    keep-rows (is_fresh clock) (λ r k. ranked r (stored_pongs (line_in lines k)))
    (λ r k. pong_at (line_in lines k).pongs (place_for l k (line_in lines k).pongcount (line_in lines k).pongnext r))
    (is_other l)
    (λ r k. ranked_for (line_in lines k) l k r)
    line_numbers
    (0 ∷ 1 ∷ 2 ∷ 3 ∷ 4 ∷ 5 ∷ 6 ∷ 7 ∷ 8 ∷ 9 ∷ [])

-- the first ten of these: where the turns made give ten, and where none is left
module _ (w : Walk) (lines : List Line) (over : w ≡ walk_over lines w.line w.clock) (i : ℕ) (h : i ≤ 80) where
  all-turns : keep_if (is_fresh w.clock) (walk lines w.line) ≡ turned w i ++ left_from w (80 - i) i
  all-turns = line-turns lines w.line w.clock ∙ ap (λ v. left_from v 80 0) (sym over) ∙ parted w i h

  pub ten-made : length (turned w i) ≡ 10 → stored_sent lines w.line w.clock ≡ turned w i
  ten-made e =
      ap (take 10) all-turns
      ∙ take-append-le 10 (turned w i) (left_from w (80 - i) i) (omega arith)
      ∙ take_all 10 (turned w i) (omega arith)

  pub all_made : 8 * min 10 (largest w.counts) ≤ i → length (turned w i) ≤ 10
      → stored_sent lines w.line w.clock ≡ turned w i
  all_made m few =
      ap (take 10)
      (all-turns
      ∙ ap (λ ps. turned w i ++ ps) (left-past w (80 - i) i (omega arith) (omega arith))
      ∙ append-nil (turned w i))
      ∙ take_all 10 (turned w i) few

map_same : {A : Type 0} (ys : List A) → map (λ y. y) ys ≡ ys
map_same [] = refl
map_same (y ∷ ys) = ap (λ l. y ∷ l) (map_same ys)

-- eight values, each of which is known by its place
pub eight-is : {A : Type 0} (f : ℕ → A) (d : A) (ys : List A) → length ys ≡ 8
    → ((k : ℕ) → k < 8 → get_or ys k d ≡ f k) → ys ≡ map f line_numbers
eight-is f d ys n h =
    sym (map_same ys)
    ∙ each-is (λ y. y) d ys n
    ∙ rw (
      h 0 (omega arith),
      h 1 (omega arith),
      h 2 (omega arith),
      h 3 (omega arith),
      h 4 (omega arith),
      h 5 (omega arith),
      h 6 (omega arith),
      h 7 (omega arith),
    )
