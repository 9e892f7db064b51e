-- Lines with their ends, and an empty line behind them, are read as a group of these lines.
use Prim.Native.Nat.{ℕ, zero, suc, ◌+◌, ◌-◌, ◌≤◌, ◌<◌}
use mathlib.Core.Path.{◌≡◌, refl, sym, ap, ap₂, subst, ◌∙◌}
use mathlib.Core.Logic.{◌⊎◌, inl, inr, ⊎_elim}
use mathlib.Core.Bool.{Bool, true, false, ◌&&◌}
use mathlib.Core.List.{List, [], ◌∷◌, ◌++◌, append_assoc}
use native.Mathlib.Omega.{arith}
use lib.Dec.{eqb, leb, ltb}
use lib.ListN.{length, length-append, get_or, get_or-append}
use lib.Seq.{get_or-append-add, get_or-append_seam}
use borrow.Author.Tests.{eqb-true, eqb-false, ltb-true, ltb-false, leb-true, ne_eqb}
use Rattle.laws.specs.Tests.{all}
use Rattle.laws.proofs.Refusals.{and_fst, and_snd}
use Rattle.ascii.specs.Text.{is_text, onto}
use Rattle.groups.specs.Lines.{group_length, lines_of}
use Rattle.groups.specs.Claims.{EmptyLineAt}
use Rattle.groups.proofs.Ends.{end-is-first}

-- ---- lines, each with its end

abbrev pub rows : List (List ℕ) → List ℕ
rows [] = []
rows (l ∷ ls) = l ++ (13 ∷ 10 ∷ rows ls)

-- a line of text that is not empty
abbrev pub is_line : List ℕ → Bool
is_line l = leb 1 (length l) && all is_text l

-- a byte of a text is neither CR nor LF
not_cr : (b : ℕ) → is_text b ≡ true → b ≡ 13 → ⊥
not_cr b h e = let z : is_text 13 ≡ true = rw e at h in let y : ◌≡◌ {A = ℕ} 0 1 = cc in omega arith

not_lf : (b : ℕ) → is_text b ≡ true → b ≡ 10 → ⊥
not_lf b h e = let z : is_text 10 ≡ true = rw e at h in let y : ◌≡◌ {A = ℕ} 0 1 = cc in omega arith

text_at : (xs : List ℕ) (i : ℕ) → i < length xs → all is_text xs ≡ true → is_text (get_or xs i 0) ≡ true
text_at [] i h t = absurd (omega arith)
text_at (x ∷ xs) zero h t = and_fst (is_text x) (all is_text xs) t
text_at (x ∷ xs) (suc i) h t = text_at xs i (omega arith) (and_snd (is_text x) (all is_text xs) t)

lines-row : (l r : List ℕ) → all is_text l ≡ true → lines_of (l ++ (13 ∷ 10 ∷ r)) ≡ l ∷ lines_of r
lines-row [] r h = refl
lines-row (a ∷ []) r h = rw (ne_eqb a 13 (not_cr a (and_fst (is_text a) true h)))
lines-row (a ∷ b ∷ l) r h =
    rw (ne_eqb a 13 (not_cr a (and_fst (is_text a) (all is_text (b ∷ l)) h)))
    (ap (onto a) (lines-row (b ∷ l) r (and_snd (is_text a) (all is_text (b ∷ l)) h)))

pub lines_rows : (ls : List (List ℕ)) → all is_line ls ≡ true → lines_of (rows ls) ≡ ls
lines_rows [] h = refl
lines_rows (l ∷ ls) h =
    lines-row l (rows ls) (and_snd (leb 1 (length l)) (all is_text l) (and_fst (is_line l) (all is_line ls) h))
    ∙ ap (λ x. l ∷ x) (lines_rows ls (and_snd (is_line l) (all is_line ls) h))

-- ---- the empty line is the first

module _ (l r : List ℕ) (some : 1 ≤ length l) (t : all is_text l ≡ true) where
  abbrev whole : List ℕ
  whole = l ++ (13 ∷ 10 ∷ r)

  at-line : (i : ℕ) → i < length l → get_or whole i 0 ≡ get_or l i 0
  at-line i h = get_or-append l (13 ∷ 10 ∷ r) 0 i h

  at_rest : (i j : ℕ) → i ≡ length l + 2 + j → get_or whole i 0 ≡ get_or r j 0
  at_rest i j e =
      let f : i ≡ length l + suc (suc j) = omega arith in
      ap (λ k. get_or whole k 0) f ∙ get_or-append-add l (13 ∷ 10 ∷ r) (suc (suc j)) 0

  at_lf : get_or whole (length l + 1) 0 ≡ 10
  at_lf = get_or-append-add l (13 ∷ 10 ∷ r) 1 0

  in_line : (k : ℕ) → k < length l → is_text (get_or whole k 0) ≡ true
  in_line k h = ap is_text (at-line k h) ∙ text_at l k h t

  -- an empty line is not in the first line, and behind it is one of the rest
  line-empty : (k : ℕ) → k < length l + 2 → EmptyLineAt whole k → ⊥
  line-empty k h e = go (ltb k (length l)) (eqb k (length l)) refl refl
    where
      go : (a b : Bool) → ltb k (length l) ≡ a → eqb k (length l) ≡ b → ⊥
      go true b p q = not_cr (get_or whole k 0) (in_line k (ltb-true k (length l) p)) e.0
      go false true p q =
          let z = eqb-true k (length l) q in
          ⊎_elim
          (λ w. omega arith)
          (λ w. not_lf (get_or whole (k - 1) 0) (in_line (k - 1) (omega arith)) w.2)
          e.2
      go false false p q =
          let a = ltb-false k (length l) p in
          let b = eqb-false k (length l) q in
          let z : k ≡ length l + 1 = omega arith in
          let c : get_or whole k 0 ≡ 10 = ap (λ n. get_or whole n 0) z ∙ at_lf in
          omega (arith, e.0)

  rest-place : (j : ℕ) → EmptyLineAt whole (length l + 2 + j) → (j ≡ 0)
      ⊎ ((2 ≤ j) × (get_or r (j - 2) 0 ≡ 13) × (get_or r (j - 1) 0 ≡ 10))
  rest-place zero e = inl refl
  rest-place (suc zero) e =
      ⊎_elim
      (λ w. absurd (omega arith))
      (λ w.
      let z : length l + 2 + suc zero - 2 ≡ length l + 1 = omega arith in
      let c : get_or whole (length l + 2 + suc zero - 2) 0 ≡ 10 = ap (λ n. get_or whole n 0) z ∙ at_lf in
      absurd (omega (arith, w.1)))
      e.2
  rest-place (suc (suc i)) e =
      ⊎_elim
      (λ w. absurd (omega arith))
      (λ w. inr (
        omega arith,
        sym (at_rest (length l + 2 + suc (suc i) - 2) (suc (suc i) - 2) (omega arith)) ∙ w.1,
        sym (at_rest (length l + 2 + suc (suc i) - 1) (suc (suc i) - 1) (omega arith)) ∙ w.2,
      ))
      e.2

  rest-empty : (j : ℕ) → EmptyLineAt whole (length l + 2 + j) → EmptyLineAt r j
  rest-empty j e = (
    sym (at_rest (length l + 2 + j) j refl) ∙ e.0,
    sym (at_rest (length l + 2 + j + 1) (j + 1) (omega arith)) ∙ e.1,
    rest-place j e,
  )

-- none stands before the end of the lines
none_before : (ls : List (List ℕ)) → all is_line ls ≡ true → (k : ℕ) → k < length (rows ls)
    → EmptyLineAt (rows ls ++ (13 ∷ 10 ∷ [])) k → ⊥
none_before [] h k b e = omega arith
none_before (l ∷ ls) h k b e = go (ltb k (length l + 2)) refl (none_before ls (and_snd (is_line l) (all is_line ls) h))
  where
    here : is_line l ≡ true
    here = and_fst (is_line l) (all is_line ls) h

    some : 1 ≤ length l
    some = leb-true 1 (length l) (and_fst (leb 1 (length l)) (all is_text l) here)

    text : all is_text l ≡ true
    text = and_snd (leb 1 (length l)) (all is_text l) here

    split : rows (l ∷ ls) ++ (13 ∷ 10 ∷ []) ≡ l ++ (13 ∷ 10 ∷ (rows ls ++ (13 ∷ 10 ∷ [])))
    split = append_assoc l (13 ∷ 10 ∷ rows ls) (13 ∷ 10 ∷ [])

    go : (t : Bool) → ltb k (length l + 2) ≡ t → ((j : ℕ) → j < length (rows ls)
        → EmptyLineAt (rows ls ++ (13 ∷ 10 ∷ [])) j → ⊥) → ⊥
    go true p f = line-empty l (rows ls ++ (13 ∷ 10 ∷ [])) some text k (ltb-true k (length l + 2) p) (rw split at e)
    go false p f =
        let a = ltb-false k (length l + 2) p in
        let z : k ≡ length l + 2 + (k - (length l + 2)) = omega arith in
        f (k - (length l + 2)) (omega (arith, length-append l (13 ∷ 10 ∷ rows ls)))
        (rest-empty l (rows ls ++ (13 ∷ 10 ∷ [])) some text (k - (length l + 2))
        (subst (λ n. EmptyLineAt (l ++ (13 ∷ 10 ∷ (rows ls ++ (13 ∷ 10 ∷ [])))) n) z (rw split at e)))

-- ---- the group ends with the lines

rows_end : (ls : List (List ℕ)) → (rows ls ≡ []) ⊎ ((x : List ℕ) × (rows ls ≡ x ++ (13 ∷ 10 ∷ [])))
rows_end [] = inl refl
rows_end (l ∷ ls) =
    ⊎_elim
    (λ e. inr (l, ap (λ y. l ++ (13 ∷ 10 ∷ y)) e))
    (λ w. inr (
      l ++ (13 ∷ 10 ∷ w.0),
      ap (λ y. l ++ (13 ∷ 10 ∷ y)) w.1 ∙ sym (append_assoc l (13 ∷ 10 ∷ w.0) (13 ∷ 10 ∷ [])),
    ))
    (rows_end ls)

tail_pair : (y x : List ℕ) → y ≡ x ++ (13 ∷ 10 ∷ []) → (2 ≤ length y)
    × (get_or (y ++ (13 ∷ 10 ∷ [])) (length y - 2) 0 ≡ 13) × (get_or (y ++ (13 ∷ 10 ∷ [])) (length y - 1) 0 ≡ 10)
tail_pair y x e =
    let n : length y ≡ length x + 2 = ap length e ∙ length-append x (13 ∷ 10 ∷ []) in
    let w : y ++ (13 ∷ 10 ∷ []) ≡ x ++ (13 ∷ 10 ∷ (13 ∷ 10 ∷ [])) = ap (λ z. z ++ (13 ∷ 10 ∷ [])) e
    ∙ append_assoc x (13 ∷ 10 ∷ []) (13 ∷ 10 ∷ []) in
    let a : length y - 2 ≡ length x + 0 = omega arith in
    let b : length y - 1 ≡ length x + 1 = omega arith in (
      omega arith,
      ap₂ (λ z k. get_or z k 0) w a ∙ get_or-append-add x (13 ∷ 10 ∷ (13 ∷ 10 ∷ [])) 0 0,
      ap₂ (λ z k. get_or z k 0) w b ∙ get_or-append-add x (13 ∷ 10 ∷ (13 ∷ 10 ∷ [])) 1 0,
    )

last-pair : (ls : List (List ℕ)) → EmptyLineAt (rows ls ++ (13 ∷ 10 ∷ [])) (length (rows ls))
last-pair ls = (
  get_or-append_seam (rows ls) 13 (10 ∷ []) 0,
  get_or-append-add (rows ls) (13 ∷ 10 ∷ []) 1 0,
  ⊎_elim (λ e. inl (ap length e)) (λ w. inr (tail_pair (rows ls) w.0 w.1)) (rows_end ls),
)

pub ends_there : (ls : List (List ℕ)) → all is_line ls ≡ true → length (rows ls) + 2 ≤ 4096
    → group_length (rows ls ++ (13 ∷ 10 ∷ [])) ≡ length (rows ls) + 2
ends_there ls h b =
    (end-is-first (rows ls ++ (13 ∷ 10 ∷ [])) (length (rows ls))).1
    ((omega (arith, length-append (rows ls) (13 ∷ 10 ∷ [])), b, last-pair ls), none_before ls h)
