-- Laws of the flags of lines: one keyword more clears those of the lines that it stops, and the last keyword leaves
-- what passes; and of the lines that a query goes on to.
use Prim.Native.Nat.{ℕ, ◌+◌, ◌*◌, ◌-◌, ◌≤◌, ◌<◌, min}
use mathlib.Core.Path.{◌≡◌, refl, sym, ap, ap₂, ◌∙◌}
use mathlib.Core.Bool.{Bool, true, false, beq, not, ◌&&◌, ◌||◌, and-true, and-false, and_assoc}
use mathlib.Core.List.{List, [], ◌∷◌, ◌++◌, map}
use native.Mathlib.Omega.{arith}
use lib.ListN.{length, get_or, set, take, drop}
use lib.Seq.{ext_get_or}
use borrow.Author.Tests.{le-leb, lt-leb}
use Rattle.std.specs.List.{list_any}
use Rattle.laws.specs.Tests.{any}
use Rattle.laws.proofs.Rings.{map-get_or}
use Rattle.keywords.specs.Keywords.{lower, words_of}
use Rattle.keywords.specs.Hash.{hash_of}
use Rattle.keywords.proofs.CutLaws.{keywords_words}
use Rattle.keywords.proofs.HashLaws.{hash-lower}
use Rattle.tables.specs.declared.Table.{Table}
use Rattle.tables.specs.Tables.{Held, held_in, no_table}
use Rattle.tables.specs.Admission.{stops, withholds}
use Rattle.protocol.specs.Lines.{line_numbers, each_line, is_other}
use Rattle.protocol.specs.Outcomes.{nobody}
use Rattle.protocol.proofs.Outcomes.{numbers-at, each_line-at}
use Rattle.protocol.specs.Queries.{passes, goes_on, own_to, query_to}
use Rattle.forwarding.specs.Passing.{held_of, left_by}
use Rattle.laws.proofs.Passing.{part-front, and_neither, element_next, element_last}

-- ---- what is made for each of the eight lines

-- line by line it takes the place of what stood there
module _ {A : Type 0} (f : ℕ → A) (old : List A) (n : length old ≡ 8) (k : ℕ) where
  pub each_next : k < 8 → (made : List A) (x : A) → made ≡ take k (map f line_numbers) ++ drop k old → x ≡ f k
      → set made k x ≡ take (k + 1) (map f line_numbers) ++ drop (k + 1) old
  each_next h made x e ex =
      ap₂ (λ l y. set l k y) e (ex ∙ sym (map-get_or f line_numbers k 0 (f 0) h ∙ ap f (numbers-at k h)))
      ∙ element_next (map f line_numbers) old k (f 0) h (omega arith)

  pub each_last : 8 ≤ k → take k (map f line_numbers) ++ drop k old ≡ map f line_numbers
  each_last h = element_last (map f line_numbers) old k h (omega arith)

-- ---- eight flags

pub some-flag : (flags : List Bool) → list_any (λ b. beq b true) flags ≡ any (λ b. b) flags
some-flag [] = refl
some-flag (true ∷ flags) = refl
some-flag (false ∷ flags) = some-flag flags

pub flag_of : (f : ℕ → Bool) (k : ℕ) → k < 8 → get_or (each_line f) k false ≡ f k
flag_of f k h = each_line-at f k (omega arith)

flags-are : (f : ℕ → Bool) (l : List Bool) → length l ≡ 8 → ((k : ℕ) → k < 8 → f k ≡ get_or l k false)
    → each_line f ≡ l
flags-are f l n h = ext_get_or false (each_line f) l (sym n) (λ k b. flag_of f k b ∙ h k b)

pub each_same : (f g : ℕ → Bool) → ((k : ℕ) → k < 8 → f k ≡ g k) → each_line f ≡ each_line g
each_same f g h = flags-are f (each_line g) refl (λ k b. h k b ∙ sym (flag_of g k b))

-- ---- eight lines, each with its table

-- the flags that are left when the tables have been asked for these keywords too
abbrev pub passing_left : List Bool → (ℕ → Held) → ℕ → List (List ℕ) → List Bool
passing_left flags tables ttl words =
    each_line (λ k. get_or flags k false && not (withholds (tables k) (map (map lower) words) ttl))

module _ (flags : List Bool) (tables : ℕ → Held) (ttl : ℕ) where
  pub passing-all : (text : List ℕ) → passing_left flags tables ttl (words_of text)
      ≡ own_to ttl (λ k. get_or flags k false) tables text
  passing-all text =
      ap (λ ks. each_line (λ k. get_or flags k false && not (withholds (tables k) ks ttl))) (sym (keywords_words text))

  -- a keyword is tested before those behind it
  pub passing-on : (word : List ℕ) (words : List (List ℕ)) (hash : ℕ) → hash ≡ hash_of word → (left : List Bool)
      → left ≡ left_by flags tables ttl hash
      → passing_left left tables ttl words ≡ passing_left flags tables ttl (word ∷ words)
  unfolding left_by withholds
  passing-on word words hash eh left el =
      rw el
      (each_same _ _
      (λ k b. ap (λ f. f && not (withholds (tables k) (map (map lower) words) ttl))
      (flag_of (λ j. get_or flags j false && not (stops (tables j) ttl hash)) k b)
      ∙ sym (and_neither (get_or flags k false) (stops (tables k) ttl hash) (withholds (tables k) (map (map lower) words) ttl))
      ∙ ap (λ h. get_or flags k false && not (stops (tables k) ttl h || withholds (tables k) (map (map lower) words) ttl))
      (eh ∙ sym (hash-lower word))))

  pub passing-end : length flags ≡ 8 → passing_left flags tables ttl [] ≡ flags
  unfolding withholds
  passing-end n = flags-are _ flags n (λ k b. and-true (get_or flags k false))

  pub left-length : (hash : ℕ) → length (left_by flags tables ttl hash) ≡ 8
  unfolding left_by
  left-length hash = refl

-- the flag that a keyword leaves line k
abbrev pub left_at : List Bool → (ℕ → Held) → ℕ → ℕ → ℕ → Bool
left_at flags tables ttl hash k = get_or flags k false && not (stops (tables k) ttl hash)

-- line k, whose part stands at the front of what is left of the area
pub flag-left : (flags : List Bool) (tables : List Table) (room : ℕ) (route : List ℕ) (k n : ℕ) (area : List ℕ)
    → area ≡ drop (k * room) route → n ≡ min room (length area) → (ttl hash : ℕ)
    → (get_or flags k false && not (stops (held_in (get_or tables k no_table) (take n area)) ttl hash))
    ≡ left_at flags (held_of tables room route) ttl hash k
flag-left flags tables room route k n area ea en ttl hash =
    ap (λ p. get_or flags k false && not (stops (held_in (get_or tables k no_table) p) ttl hash))
    (part-front room route k n area ea en)

-- a query that came by line l with this life: to the other open lines that let it pass, where the life is 2 or more,
-- and else to nobody
module _ (l life : ℕ) (live : List Bool) (tables : ℕ → Held) (text : List ℕ) where
  pub going-nobody : life < 2 → nobody ≡ query_to life l (λ k. get_or live k false) tables text
  going-nobody short =
      each_same (λ k. false) (λ k. goes_on life l k (get_or live k false) (tables k) text)
      (λ k h. sym (rw (lt-leb 2 life short) (and-false (is_other l k))))

  pub going-some : 2 ≤ life → (others : List Bool) → others ≡ each_line (λ k. is_other l k && get_or live k false)
      → own_to (life - 1) (λ k. get_or others k false) tables text ≡ query_to life l (λ k. get_or live k false) tables text
  going-some long others e =
      rw e
      (each_same _ (λ k. goes_on life l k (get_or live k false) (tables k) text)
      (λ k h. ap (λ b. passes b (tables k) text (life - 1)) (flag_of (λ j. is_other l j && get_or live j false) k h)
      ∙ and_assoc (is_other l k) (get_or live k false) _
      ∙ sym (rw (le-leb 2 life long))))

-- what is tried where a life is short
pub ruleset going_laws = going-nobody
