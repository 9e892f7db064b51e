-- Parts of a list, as code that walks a text has them, and a list written over another piece by piece.
use mathlib.Core.Path.{◌≡◌, sym, ap, ap₂, ◌∙◌}
use mathlib.Core.List.{List, [], ◌∷◌, ◌++◌, append_assoc}
use Prim.Native.Nat.{ℕ, ◌+◌, ◌≤◌, ◌<◌}
use native.Mathlib.Nat.{add-zero, add_assoc}
use native.Mathlib.Numerals.{add-one}
use native.Mathlib.Omega.{arith}
use lib.ListN.{length, get_or, take, drop, set, length-append, take-append-drop, drop_of_length-le}
use lib.Seq.{drop-cons, get_or-drop, take_at, drop-drop, drop-append-add, set_split, length-take-le}
use Rattle.laws.specs.Parts.{over, Put}

module _ {A : Type 0} where
  -- the first of what is left is the element at the place
  pub head-drop : (s : List A) (i : ℕ) (d : A) → get_or (drop i s) 0 d ≡ get_or s i d
  head-drop s i d = rw (get_or-drop, add-zero)

-- nothing written
pub over_none : (at : ℕ) (d : List ℕ) → over at [] d ≡ d
over_none at d = rw add-zero (take-append-drop at d)

-- a piece, and the next piece behind it
pub over_append : (at : ℕ) (a b d : List ℕ) → at + length a ≤ length d → over (at + length a) b (over at a d)
    ≡ over at (a ++ b) d
over_append at a b d h =
    let p = take at d ++ a in
    let q = drop (at + length a) d in
    let n : length p ≡ at + length a = length-append (take at d) a ∙ ap (λ k. k + length a)
    (length-take-le at d (omega arith)) in
    let e : over at a d ≡ p ++ q = sym (append_assoc (take at d) a q) in
    let t : take (at + length a) (p ++ q) ≡ p = take_at p q (at + length a) n in
    let u : drop (at + length a + length b) (p ++ q) ≡ drop (at + length (a ++ b)) d =
    ap (λ k. drop (k + length b) (p ++ q)) (sym n)
    ∙ drop-append-add p q (length b)
    ∙ drop-drop (length b) (at + length a) d
    ∙ ap (λ k. drop k d) (add_assoc at (length a) (length b) ∙ ap (λ k. at + k) (sym (length-append a b))) in
    ap (λ x. take (at + length a) x ++ (b ++ drop (at + length a + length b) x)) e
    ∙ ap₂ (λ x y. x ++ (b ++ y)) t u
    ∙ append_assoc (take at d) a (b ++ drop (at + length (a ++ b)) d)
    ∙ ap (λ x. take at d ++ x) (sym (append_assoc a b (drop (at + length (a ++ b)) d)))

-- the same of two texts that were put, the second where the first ends
pub put_then : {at : ℕ} {x y area mid after : List ℕ} {i j : ℕ} → Put at x area mid i → Put i y mid after j
    → i ≤ length area → Put at (x ++ y) area after j
put_then {at} {x} {y} {area} {mid} {after} {i} {j} p q h =
    record {
      written =
          q.written
          ∙ ap (λ l. over i y l) p.written
          ∙ ap (λ k. over k y (over at x area)) p.moved
          ∙ over_append at x y area (omega (arith, p.moved));
      moved = omega (arith, p.moved, q.moved, length-append x y);
    }

-- a byte, and what is written behind it
pub over-set : (at x : ℕ) (b d : List ℕ) → at < length d → over (at + 1) b (set d at x) ≡ over at (x ∷ b) d
over-set at x b d h =
    ap (over (at + 1) b) (set_split d at x h ∙ ap (λ k. take at d ++ (x ∷ drop k d)) (sym (add-one at)))
    ∙ over_append at (x ∷ []) b d (omega arith)

-- a turn of a loop that copies: the byte at i is written, and what is left behind it
pub copy-on : (at i : ℕ) (part d : List ℕ) → i < length part → at + i < length d
    → over (at + (i + 1)) (drop (i + 1) part) (set d (at + i) (get_or part i 0)) ≡ over (at + i) (drop i part) d
copy-on at i part d h k =
    let e : at + (i + 1) ≡ at + i + 1 = omega arith in
    let f : drop i part ≡ get_or part i 0 ∷ drop (i + 1) part = drop-cons part i 0 h
    ∙ ap (λ j. get_or part i 0 ∷ drop j part) (sym (add-one i)) in
    ap (λ j. over j (drop (i + 1) part) (set d (at + i) (get_or part i 0))) e
    ∙ over-set (at + i) (get_or part i 0) (drop (i + 1) part) d k
    ∙ ap (λ x. over (at + i) x d) (sym f)

pub copy-end : (at i : ℕ) (part d : List ℕ) → length part ≤ i → over (at + i) (drop i part) d ≡ d
copy-end at i part d h = ap (λ x. over (at + i) x d) (drop_of_length-le part h) ∙ over_none (at + i) d
