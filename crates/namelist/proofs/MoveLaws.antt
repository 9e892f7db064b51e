-- What can be read of an area after one write to it: what was written, and all that lies apart from it as before.
use Prim.Native.Nat.{ℕ, zero, suc, ◌+◌, ◌-◌, ◌*◌, ◌≤◌, ◌<◌}
use mathlib.Core.Path.{◌≡◌, refl, sym, ap, ap₂, ◌∙◌}
use mathlib.Core.Bool.{Bool, true, false}
use mathlib.Core.Logic.{◌⊎◌, inl, inr, ⊎_elim}
use mathlib.Core.List.{List, ◌++◌}
use native.Mathlib.Omega.{arith}
use lib.Dec.{ltb}
use lib.ListN.{length, take, drop, length-take, length-drop}
use lib.Seq.{drop-drop, paste}
use Rattle.std.proofs.Common.{append_assoc}
use borrow.Rule.Slice.PartMut.{put_mid}
use borrow.Author.Tests.{ltb-true, ltb-false}
use Rattle.laws.specs.Bytes.{little, little_bytes}
use Rattle.laws.specs.Parts.{over}
use Rattle.laws.proofs.Over.{over-length, over-front}
use Rattle.laws.proofs.Overlay.{over-read, over-ahead, over-behind}
use Rattle.laws.proofs.Writing.{little_of_bytes}
use Rattle.namearea.specs.declared.Span.{Span}
use Rattle.namearea.specs.Area.{most_names, text_from, count_in, span_in, span_at}
use Rattle.namearea.proofs.SpanLaws.{span_same}
use Rattle.namelist.specs.Moves.{CountPut, PairPut, TextPut}

-- a piece apart from what was written
pub over-other : (from : ℕ) (bs a : List ℕ) (p n : ℕ) → from + length bs ≤ length a
    → (p + n ≤ from) ⊎ (from + length bs ≤ p)
    → take n (drop p (over from bs a)) ≡ take n (drop p a)
over-other from bs a p n h =
    ⊎_elim (λ k. over-ahead from bs a p n (omega arith) k) (λ k. ap (take n) (over-behind from bs a p h k))

-- one of two numbers that differ is the less
pub sides : (k i : ℕ) → (k ≡ i → ⊥) → (k < i) ⊎ (i < k)
sides k i ne = go (ltb k i) refl
  where
    go : (b : Bool) → ltb k i ≡ b → (k < i) ⊎ (i < k)
    go true e = inl (ltb-true k i e)
    go false e = let h : i ≤ k = ltb-false k i e in
        let g : k ≡ i → ⊥ = ne in inr (less h g)
      where
        less : i ≤ k → (k ≡ i → ⊥) → i < k
        less h g = omega arith

-- the count was written
pub count-put : (a : List ℕ) (n : ℕ) (b : List ℕ) → text_from ≤ length a → n < 4294967296
    → b ≡ over 0 (little_bytes 4 n) a → CountPut a n b
unfolding count_in
count-put a n b h g e = rw e put
  where
    put : CountPut a n (over 0 (little_bytes 4 n) a)
    put = record {
      long = over-length 0 (little_bytes 4 n) a (omega arith);
      count = ap little (over-front (little_bytes 4 n) a) ∙ little_of_bytes n g;
      pairs = λ k l. ap span_in (over-behind 0 (little_bytes 4 n) a (4 + 8 * k) (omega arith) (omega arith));
      text = over-behind 0 (little_bytes 4 n) a text_from (omega arith) (omega arith);
    }

-- the two numbers of pair i were written, one behind the other
module _ (a : List ℕ) (i : ℕ) (o z b c : List ℕ) (h : text_from ≤ length a) (l : i < most_names) (ho : length o ≡ 4)
    (hz : length z ≡ 4) (m : length b ≡ length a) (eb : b ≡ over (4 + 8 * i) o a) (ec : c ≡ over (4 + 8 * i + 4) z b)
  where
    -- a piece apart from both
    two-apart : (p n : ℕ) → (p + n ≤ 4 + 8 * i) ⊎ (4 + 8 * i + 8 ≤ p) → take n (drop p c) ≡ take n (drop p a)
    two-apart p n q =
        let later : (p + n ≤ 4 + 8 * i + 4) ⊎ (4 + 8 * i + 4 + length z ≤ p) =
        ⊎_elim (λ x. inl (omega arith)) (λ x. inr (omega arith)) q in
        let earlier : (p + n ≤ 4 + 8 * i) ⊎ (4 + 8 * i + length o ≤ p) =
        ⊎_elim (λ x. inl x) (λ x. inr (omega arith)) q in
        ap (λ x. take n (drop p x)) ec
        ∙ over-other (4 + 8 * i + 4) z b p n (omega arith) later
        ∙ ap (λ x. take n (drop p x)) eb
        ∙ over-other (4 + 8 * i) o a p n (omega arith) earlier

    two-count : count_in c ≡ count_in a
    unfolding count_in
    two-count = ap little (two-apart 0 4 (inl (omega arith)))

    two-others : (j : ℕ) → j < most_names → (j ≡ i → ⊥) → span_at c j ≡ span_at a j
    two-others j p ne =
        let q : (4 + 8 * j + 8 ≤ 4 + 8 * i) ⊎ (4 + 8 * i + 8 ≤ 4 + 8 * j) =
        ⊎_elim (λ x. inl (omega arith)) (λ x. inr (omega arith)) (sides j i ne) in
        span_same (drop (4 + 8 * j) c) (drop (4 + 8 * j) a) (two-apart (4 + 8 * j) 8 q)

    two-text : drop text_from c ≡ drop text_from a
    two-text =
        ap (drop text_from) ec
        ∙ over-behind (4 + 8 * i + 4) z b text_from (omega arith) (omega arith)
        ∙ ap (drop text_from) eb
        ∙ over-behind (4 + 8 * i) o a text_from (omega arith) (omega arith)

    two-first : take 4 (drop (4 + 8 * i) c) ≡ o
    two-first =
        ap (λ x. take 4 (drop (4 + 8 * i) x)) ec
        ∙ over-ahead (4 + 8 * i + 4) z b (4 + 8 * i) 4 (omega arith) (omega arith)
        ∙ ap (λ x. take 4 (drop (4 + 8 * i) x)) eb
        ∙ ap (λ n. take n (drop (4 + 8 * i) (over (4 + 8 * i) o a))) (sym ho)
        ∙ over-read (4 + 8 * i) o a (omega arith)

    two-second : take 4 (drop 4 (drop (4 + 8 * i) c)) ≡ z
    two-second =
        ap (take 4) (drop-drop 4 (4 + 8 * i) c)
        ∙ ap (λ x. take 4 (drop (4 + 8 * i + 4) x)) ec
        ∙ ap (λ n. take n (drop (4 + 8 * i + 4) (over (4 + 8 * i + 4) z b))) (sym hz)
        ∙ over-read (4 + 8 * i + 4) z b (omega arith)

pub pair_put : (a : List ℕ) (i : ℕ) (s : Span) (b c : List ℕ) → text_from ≤ length a → i < most_names
    → s.offset < 4294967296 → s.size < 4294967296
    → b ≡ over (4 + 8 * i) (little_bytes 4 s.offset) a → c ≡ over (4 + 8 * i + 4) (little_bytes 4 s.size) b
    → PairPut a i s c
unfolding span_in
pair_put a i s b c h l g k eb ec =
    let o = little_bytes 4 s.offset in
    let z = little_bytes 4 s.size in
    let m : length b ≡ length a = ap length eb ∙ over-length (4 + 8 * i) o a (omega arith) in
    let n : length c ≡ length b = ap length ec ∙ over-length (4 + 8 * i + 4) z b (omega arith) in
    record {
      long = n ∙ m;
      count = two-count a i o z b c h l refl refl m eb ec;
      here = ap₂ (λ x y. record { offset = x; size = y })
          (ap little (two-first a i o z b c h l refl refl m eb ec) ∙ little_of_bytes s.offset g)
          (ap little (two-second a i o z b c h l refl refl m eb ec) ∙ little_of_bytes s.size k);
      others = λ j p ne. two-others a i o z b c h l refl refl m eb ec j p ne;
      text = two-text a i o z b c h l refl refl m eb ec;
    }

-- a part of a list that was lent came back as these bytes
pub part-put : (from k : ℕ) (bs a left : List ℕ) → length bs ≡ k → left ≡ bs → put_mid from k a left ≡ over from bs a
part-put from k bs a left h e =
    ap (λ l. take from a ++ (l ++ drop k (drop from a))) e
    ∙ ap (λ l. take from a ++ (bs ++ l)) (drop-drop k from a ∙ ap (λ n. drop (from + n) a) (sym h))

-- the same where each became a part of four bytes that was lent
pub pair-copied : (a : List ℕ) (i : ℕ) (s : Span) (left right : List ℕ) → text_from ≤ length a → i < most_names
    → s.offset < 4294967296 → s.size < 4294967296
    → left ≡ little_bytes 4 s.offset → right ≡ little_bytes 4 s.size
    → (let at = 4 + 8 * i in
    PairPut a i s (put_mid (at + 4) (at + 8 - (at + 4)) (put_mid at (at + 4 - at) a left) right))
pair-copied a i s left right h l g k eo ez =
    let at = 4 + 8 * i in
    let b = put_mid at (at + 4 - at) a left in
    let eb : b ≡ over at (little_bytes 4 s.offset) a =
    part-put at (at + 4 - at) (little_bytes 4 s.offset) a left (omega arith) eo in
    pair_put a i s b (put_mid (at + 4) (at + 8 - (at + 4)) b right) h l g k eb
    (part-put (at + 4) (at + 8 - (at + 4)) (little_bytes 4 s.size) b right (omega arith) ez)

-- a text was written
pub text-put : (a : List ℕ) (at : ℕ) (x b : List ℕ) → text_from ≤ at → at + length x ≤ length a → b ≡ over at x a
    → TextPut a at x b
unfolding count_in
text-put a at x b h g e = rw e put
  where
    put : TextPut a at x (over at x a)
    put = record {
      long = over-length at x a g;
      count = ap little (over-ahead at x a 0 4 (omega arith) (omega arith));
      pairs = λ k l. span_same (drop (4 + 8 * k) (over at x a)) (drop (4 + 8 * k) a)
          (over-ahead at x a (4 + 8 * k) 8 (omega arith) (omega arith));
      here = over-read at x a (omega arith);
      others = λ s q. over-other at x a s.offset s.size g q;
    }

-- all n bytes were moved, as many as are there
pub text-moved : (a : List ℕ) (to from n : ℕ) (b : List ℕ) → text_from ≤ to → to ≤ from → from + n ≤ length a
    → b ≡ paste a to (drop from a) (from + n - from) → TextPut a to (take n (drop from a)) b
text-moved a to from n b h g l e =
    let x = take n (drop from a) in
    let k : length x ≡ n = simp (length-take, length-drop) (omega arith) in
    let m : from + n - from ≡ n = omega arith in
    text-put a to x b h (omega arith)
    (e ∙ ap (paste a to (drop from a)) m ∙ append_assoc (take to a) x (drop (to + n) a) ∙ ap (λ m. take to a ++ (x ++ drop (to + m) a)) (sym k))
