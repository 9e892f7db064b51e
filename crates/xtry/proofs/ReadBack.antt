-- Pairs that were written are read as the same pairs.
use Prim.Native.Nat.{ℕ, zero, suc, ◌+◌, ◌*◌, ◌/◌, ◌%◌, ◌^◌, ◌≤◌, ◌<◌}
use mathlib.Core.Path.{◌≡◌, refl, sym, ap, ap₂, ◌∙◌}
use mathlib.Core.Bool.{Bool, true, false, cond, not, ◌&&◌}
use mathlib.Core.List.{List, [], ◌∷◌, ◌++◌, map, append_assoc, append-nil}
use native.Mathlib.Omega.{arith}
use lib.Dec.{eqb, leb, ltb}
use lib.ListN.{length, take, get_or, length-append}
use lib.Seq.{take_all}
use borrow.Author.Tests.{le-leb, lt-ltb, eq-eqb, eqb-true, leb-true, ltb-true, ltb-false, not-true}
use Rattle.laws.specs.Tests.{all}
use Rattle.laws.proofs.Decimal.{tenth-below}
use Rattle.digits.specs.Decimal.{digits_of, decimal}
use Rattle.digits.proofs.Sizes.{size-one, size-two, size-three, size-four, size-five}
use Rattle.ascii.specs.Text.{is_digit, digit_of, decimal_from, pieces, filled}
use Rattle.xtry.specs.Pairs.{is_number, number, comma, dot, colon, space, bare, items_of, up_to, past, texts_of}
use Rattle.xtry.specs.Pairs.{is_octet, is_port, good_pair, pair_in, pairs_of, read_answer, tried_of}
use Rattle.xtry.specs.Writing.{octet_of, pair_text, pairs_text}
use Rattle.xtry.specs.Claims.{is_host, ReadBack}
use Rattle.xtry.specs.declared.Pair.{Pair}
use Rattle.xtry.proofs.Cuts.{item_onto, items_step}
use Rattle.xtry.proofs.Putting.{pair_size}
use Rattle.xtry.proofs.Items.{no_items}
use Rattle.laws.proofs.Refusals.{and_fst, and_snd}

-- ---- lists

pub all_append : (f : ℕ → Bool) (xs ys : List ℕ) → all f xs ≡ true → all f ys ≡ true → all f (xs ++ ys) ≡ true
all_append f [] ys h k = k
all_append f (x ∷ xs) ys h k = rw (and_fst (f x) (all f xs) h) (all_append f xs ys (and_snd (f x) (all f xs) h) k)

decimal_append : (n : ℕ) (xs ys : List ℕ) → decimal_from n (xs ++ ys) ≡ decimal_from (decimal_from n xs) ys
decimal_append n [] ys = refl
decimal_append n (x ∷ xs) ys = decimal_append (n * 10 + digit_of x) xs ys

-- ---- a number in decimal

digit-is : (n : ℕ) → n < 10 → is_digit (48 + n) ≡ true
digit-is n h = rw (le-leb 48 (48 + n) (omega arith), le-leb (48 + n) 57 (omega arith))

digit_of_lem : (n : ℕ) → n < 10 → digit_of (48 + n) ≡ n
unfolding digit_of
digit_of_lem n h = rw (digit-is n h) (omega arith)

digits-all : (k n : ℕ) → all is_digit (digits_of k n) ≡ true
digits-all zero n = refl
digits-all (suc k) n = go (ltb n 10) refl (digits-all k (n / 10))
  where
    go : (t : Bool) → ltb n 10 ≡ t → all is_digit (digits_of k (n / 10)) ≡ true → all is_digit
        (cond t ((48 + n) ∷ []) (digits_of k (n / 10) ++ ((48 + n % 10) ∷ []))) ≡ true
    go true e h = rw (digit-is n (ltb-true n 10 e))
    go false e h = all_append is_digit (digits_of k (n / 10)) ((48 + n % 10) ∷ []) h
        (rw (digit-is (n % 10) (omega arith)))

digits_number : (k n : ℕ) → n < 10 ^ suc k → number (digits_of (suc k) n) ≡ n
digits_number zero n h = rw (lt-ltb n 10 h, digit_of_lem n h) (omega arith)
digits_number (suc k) n h = go (ltb n 10) refl (digits_number k (n / 10) (tenth-below (suc k) n h))
  where
    go : (t : Bool) → ltb n 10 ≡ t → number (digits_of (suc k) (n / 10)) ≡ n / 10
        → number (cond t ((48 + n) ∷ []) (digits_of (suc k) (n / 10) ++ ((48 + n % 10) ∷ []))) ≡ n
    go true e h = rw (digit_of_lem n (ltb-true n 10 e)) (omega arith)
    go false e h = decimal_append 0 (digits_of (suc k) (n / 10)) ((48 + n % 10) ∷ [])
        ∙ rw (h, digit_of_lem (n % 10) (omega arith)) (omega arith)

pub decimal-all : (n : ℕ) → all is_digit (decimal n) ≡ true
unfolding decimal
decimal-all n = digits-all 5 n

decimal-number : (n : ℕ) → n < 100000 → number (decimal n) ≡ n
unfolding decimal
decimal-number n h = digits_number 4 n h

-- how many digits a number below a bound has
pub record Digits (n widest : ℕ) : Type 0 where
  pub some : 1 ≤ length (decimal n)
  pub few : length (decimal n) ≤ widest

pub below_thousand : (n : ℕ) → n < 1000 → Digits n 3
below_thousand n h = go (ltb n 10) (ltb n 100) refl refl
  where
    go : (a b : Bool) → ltb n 10 ≡ a → ltb n 100 ≡ b → Digits n 3
    go true b e f = let s = size-one n (ltb-true n 10 e) in record { some = omega arith; few = omega arith }
    go false true e f = let s = size-two n (ltb-false n 10 e) (ltb-true n 100 f) in
        record { some = omega arith; few = omega arith }
    go false false e f = let s = size-three n (ltb-false n 100 f) h in record { some = omega arith; few = omega arith }

pub below-most : (n : ℕ) → n < 100000 → Digits n 5
below-most n h = go (ltb n 1000) (ltb n 10000) refl refl
  where
    go : (a b : Bool) → ltb n 1000 ≡ a → ltb n 10000 ≡ b → Digits n 5
    go true b e f = let s = below_thousand n (ltb-true n 1000 e) in
        record { some = s.some; few = omega (arith, s.few) }
    go false true e f = let s = size-four n (ltb-false n 1000 e) (ltb-true n 10000 f) in
        record { some = omega arith; few = omega arith }
    go false false e f = let s = size-five n (ltb-false n 10000 f) h in record { some = omega arith; few = omega arith }

number_is : (n widest : ℕ) → Digits n widest → is_number widest (decimal n) ≡ true
number_is n widest d =
    rw (le-leb 1 (length (decimal n)) d.some, le-leb (length (decimal n)) widest d.few, decimal-all n)

pub octet-is : (n : ℕ) → n ≤ 255 → is_octet (decimal n) ≡ true
octet-is n h = rw (number_is n 3 (below_thousand n (omega arith)), decimal-number n (omega arith), le-leb n 255 h)

port-is : (n : ℕ) → 1 ≤ n → n ≤ 65535 → is_port (decimal n) ≡ true
port-is n h k =
    rw (number_is n 5 (below-most n (omega arith)), decimal-number n (omega arith), le-leb 1 n h, le-leb n 65535 k)

-- ---- a text without a separator

abbrev pub clean : ℕ → List ℕ → Bool
clean s text = all (λ b. not (eqb b s)) text

pub digit-clean : (s : ℕ) → is_digit s ≡ false → (xs : List ℕ) → all is_digit xs ≡ true → clean s xs ≡ true
digit-clean s d [] h = refl
digit-clean s d (x ∷ xs) h = go (eqb x s) refl (digit-clean s d xs (and_snd (is_digit x) (all is_digit xs) h))
  where
    go : (t : Bool) → eqb x s ≡ t → clean s xs ≡ true → (not t && clean s xs) ≡ true
    go false e k = k
    go true e k =
        let i : is_digit s ≡ true = ap is_digit (sym (eqb-true x s e)) ∙ and_fst (is_digit x) (all is_digit xs) h in
        let z : ◌≡◌ {A = Bool} true false = sym i ∙ d in
        let y : ◌≡◌ {A = ℕ} 0 1 = cc in
        absurd (omega arith)

module _ (s : ℕ) where
  other : (x : ℕ) (xs : List ℕ) → clean s (x ∷ xs) ≡ true → eqb x s ≡ false
  other x xs h = not-true (eqb x s) (and_fst (not (eqb x s)) (clean s xs) h)

  others : (x : ℕ) (xs : List ℕ) → clean s (x ∷ xs) ≡ true → clean s xs ≡ true
  others x xs h = and_snd (not (eqb x s)) (clean s xs) h

  up_to-clean : (xs ys : List ℕ) → clean s xs ≡ true → up_to s (xs ++ (s ∷ ys)) ≡ xs
  unfolding up_to
  up_to-clean [] ys h = rw (eq-eqb s s refl)
  up_to-clean (x ∷ xs) ys h = rw (other x xs h) (ap (λ l. x ∷ l) (up_to-clean xs ys (others x xs h)))

  past-clean : (xs ys : List ℕ) → clean s xs ≡ true → past s (xs ++ (s ∷ ys)) ≡ ys
  unfolding past
  past-clean [] ys h = rw (eq-eqb s s refl)
  past-clean (x ∷ xs) ys h = rw (other x xs h) (past-clean xs ys (others x xs h))

  up_to-all : (xs : List ℕ) → clean s xs ≡ true → up_to s xs ≡ xs
  unfolding up_to
  up_to-all [] h = refl
  up_to-all (x ∷ xs) h = rw (other x xs h) (ap (λ l. x ∷ l) (up_to-all xs (others x xs h)))

  past_all : (xs : List ℕ) → clean s xs ≡ true → past s xs ≡ []
  unfolding past
  past_all [] h = refl
  past_all (x ∷ xs) h = rw (other x xs h) (past_all xs (others x xs h))

-- ---- a pair

module _ (p : Pair) where
  abbrev pub part : ℕ → List ℕ
  part k = decimal (octet_of p k)

  abbrev pub port : List ℕ
  port = decimal p.port

  -- the text behind each separator
  abbrev behind₃ : List ℕ
  behind₃ = part 3 ++ (colon ∷ port)

  abbrev behind₂ : List ℕ
  behind₂ = part 2 ++ (dot ∷ behind₃)

  abbrev pub behind₁ : List ℕ
  behind₁ = part 1 ++ (dot ∷ behind₂)

  pub pair-split : pair_text p ≡ part 0 ++ (dot ∷ behind₁)
  unfolding pair_text
  pair-split = simp append_assoc

  part-clean : (s k : ℕ) → is_digit s ≡ false → clean s (part k) ≡ true
  part-clean s k d = digit-clean s d (part k) (decimal-all (octet_of p k))

  pair-texts : texts_of (pair_text p) ≡ part 0 ∷ part 1 ∷ part 2 ∷ part 3 ∷ port ∷ []
  pair-texts =
      rw (
        pair-split,
        up_to-clean dot (part 0) behind₁ (part-clean dot 0 refl),
        past-clean dot (part 0) behind₁ (part-clean dot 0 refl),
        up_to-clean dot (part 1) behind₂
            (part-clean dot 1 refl),
        past-clean dot (part 1) behind₂ (part-clean dot 1 refl),
        up_to-clean dot (part 2)
            behind₃ (part-clean dot 2 refl),
        past-clean dot (part 2) behind₃ (part-clean dot 2 refl),
        up_to-clean colon
            (part 3) port (part-clean colon 3 refl),
        past-clean colon (part 3) port (part-clean colon 3 refl),
      )

  -- no separator of items stands in it
  pub pair-clean : (s : ℕ) → is_digit s ≡ false → eqb dot s ≡ false → eqb colon s ≡ false → clean s (pair_text p) ≡ true
  pair-clean s d e f =
      let f₃ : clean s behind₃ ≡ true = all_append not_s (part 3) (colon ∷ port) (part-clean s 3 d)
      (rw f (digit-clean s d port (decimal-all p.port))) in
      let f₂ : clean s behind₂ ≡ true = all_append not_s (part 2) (dot ∷ behind₃) (part-clean s 2 d) (rw e f₃) in
      let f₁ : clean s behind₁ ≡ true = all_append not_s (part 1) (dot ∷ behind₂) (part-clean s 1 d) (rw e f₂) in
      rw pair-split (all_append not_s (part 0) (dot ∷ behind₁) (part-clean s 0 d) (rw e f₁))
    where
      not_s : ℕ → Bool
      not_s b = not (eqb b s)

-- a host's octets
pub record Host (p : Pair) : Type 0 where
  pub address : p.address ≡ octet_of p 0 ∷ octet_of p 1 ∷ octet_of p 2 ∷ octet_of p 3 ∷ []
  pub octet : (k : ℕ) → octet_of p k ≤ 255
  pub least : 1 ≤ p.port
  pub most : p.port ≤ 65535

four : (a : List ℕ) → length a ≡ 4 → a ≡ get_or a 0 0 ∷ get_or a 1 0 ∷ get_or a 2 0 ∷ get_or a 3 0 ∷ []
four [] h = absurd (omega arith)
four (a ∷ []) h = absurd (omega arith)
four (a ∷ b ∷ []) h = absurd (omega arith)
four (a ∷ b ∷ c ∷ []) h = absurd (omega arith)
four (a ∷ b ∷ c ∷ d ∷ []) h = refl
four (a ∷ b ∷ c ∷ d ∷ e ∷ r) h = absurd (omega arith)

octets_below : (xs : List ℕ) (k : ℕ) → all (λ b. leb b 255) xs ≡ true → get_or xs k 0 ≤ 255
octets_below [] k h = omega arith
octets_below (x ∷ xs) zero h = leb-true x 255 (and_fst (leb x 255) (all (λ b. leb b 255) xs) h)
octets_below (x ∷ xs) (suc k) h = octets_below xs k (and_snd (leb x 255) (all (λ b. leb b 255) xs) h)

host : (p : Pair) → is_host p ≡ true → Host p
host p h =
    let a = eqb (length p.address) 4 in
    let b = all (λ x. leb x 255) p.address in
    let c = leb 1 p.port in
    let d = leb p.port 65535 in
    let h₁ = and_snd a (b && (c && (d && true))) h in
    let h₂ = and_snd b (c && (d && true)) h₁ in
    record {
      address = four p.address (eqb-true (length p.address) 4 (and_fst a (b && (c && (d && true))) h));
      octet = λ k. octets_below p.address k (and_fst b (c && (d && true)) h₁);
      least = leb-true 1 p.port (and_fst c (d && true) h₂);
      most = leb-true p.port 65535 (and_fst d true (and_snd c (d && true) h₂));
    }

pair-good : (p : Pair) → Host p → good_pair (pair_text p) ≡ true
unfolding good_pair
pair-good p h =
    ap (λ ts. all is_octet (take 4 ts) && is_port (get_or ts 4 [])) (pair-texts p)
    ∙ rw (
      octet-is (octet_of p 0) (h.octet 0),
      octet-is (octet_of p 1) (h.octet 1),
      octet-is (octet_of p 2) (h.octet 2),
      octet-is (octet_of p 3) (h.octet 3),
      port-is p.port h.least h.most,
    )

pair_in_lem : (p : Pair) → Host p → pair_in (pair_text p) ≡ p
unfolding pair_in
pair_in_lem p h =
    let n : (k : ℕ) → number (decimal (octet_of p k)) ≡ octet_of p k = λ k. decimal-number (octet_of p k)
    (omega (arith, h.octet k)) in
    ap (λ ts. record { address = map number (take 4 ts); port = number (get_or ts 4 []) }) (pair-texts p)
    ∙ rw (n 0, n 1, n 2, n 3, decimal-number p.port (omega (arith, h.most)))
    (ap (λ a. record { address = a; port = p.port }) (sym h.address))

-- ---- pairs

-- a text that begins with a digit has no space in front
bare-digits : (xs ys : List ℕ) → 1 ≤ length xs → all is_digit xs ≡ true → bare (xs ++ ys) ≡ xs ++ ys
unfolding bare
bare-digits [] ys l h = absurd (omega arith)
bare-digits (x ∷ xs) ys l h =
    rw (not-true (eqb x space) (and_fst (not (eqb x space)) (clean space xs) (digit-clean space refl (x ∷ xs) h)))

item-some : (xs ys : List ℕ) (items : List (List ℕ)) → 1 ≤ length xs → item_onto (xs ++ ys) items ≡ (xs ++ ys) ∷ items
item-some [] ys items l = absurd (omega arith)
item-some (x ∷ xs) ys items l = refl

pub pair-bare : (p : Pair) (ys : List ℕ) → Host p → bare (pair_text p ++ ys) ≡ pair_text p ++ ys
pair-bare p ys h =
    rw (pair-split p, append_assoc (part p 0) (dot ∷ behind₁ p) ys)
    (bare-digits (part p 0) ((dot ∷ behind₁ p) ++ ys) (below_thousand (octet_of p 0) (omega (arith, h.octet 0))).some
    (decimal-all (octet_of p 0)))

pair-item : (p : Pair) (items : List (List ℕ)) → Host p → item_onto (pair_text p) items ≡ pair_text p ∷ items
pair-item p items h = rw (pair-split p) (item-some (part p 0) (dot ∷ behind₁ p) items
    (below_thousand (octet_of p 0) (omega (arith, h.octet 0))).some)

-- the pairs' text begins with a pair's
pairs-bare : (p : Pair) (ps : List Pair) → Host p → bare (pairs_text (p ∷ ps)) ≡ pairs_text (p ∷ ps)
unfolding pairs_text
pairs-bare p [] h = rw append-nil at (pair-bare p [] h)
pairs-bare p (q ∷ qs) h = pair-bare p (comma ∷ pairs_text (q ∷ qs)) h

-- a comma stands between two pairs and nowhere else
pair_commas : (p : Pair) → clean comma (pair_text p) ≡ true
pair_commas p = pair-clean p comma refl refl refl

pub host-first : (p : Pair) (ps : List Pair) → all is_host (p ∷ ps) ≡ true → Host p
host-first p ps h = host p (and_fst (is_host p) (all is_host ps) h)

none_left : items_of (bare []) ≡ []
unfolding items_of pieces filled bare
none_left = refl

pub pairs_items : (ps : List Pair) → all is_host ps ≡ true → items_of (pairs_text ps) ≡ map pair_text ps
unfolding pairs_text
pairs_items [] h = no_items
pairs_items (p ∷ []) h =
    items_step (pair_text p)
    ∙ rw (up_to-all comma (pair_text p) (pair_commas p), past_all comma (pair_text p) (pair_commas p), none_left)
    (pair-item p [] (host-first p [] h))
pairs_items (p ∷ q ∷ qs) h =
    let rest = pairs_text (q ∷ qs) in
    let k = and_snd (is_host p) (all is_host (q ∷ qs)) h in
    items_step (pair_text p ++ (comma ∷ rest))
    ∙ rw (
      up_to-clean comma (pair_text p) rest (pair_commas p),
      past-clean comma (pair_text p) rest (pair_commas p),
      pairs-bare q qs (host-first q qs k),
      pairs_items (q ∷ qs) k,
    )
    (pair-item p (map pair_text (q ∷ qs)) (host-first p (q ∷ qs) h))

pub pairs-good : (ps : List Pair) → all is_host ps ≡ true → all good_pair (map pair_text ps) ≡ true
pairs-good [] h = refl
pairs-good (p ∷ ps) h = rw (pair-good p (host-first p ps h)) (pairs-good ps (and_snd (is_host p) (all is_host ps) h))

pub pairs-same : (ps : List Pair) → all is_host ps ≡ true → map pair_in (map pair_text ps) ≡ ps
pairs-same [] h = refl
pairs-same (p ∷ ps) h = ap₂ (λ x xs. x ∷ xs) (pair_in_lem p (host-first p ps h))
    (pairs-same ps (and_snd (is_host p) (all is_host ps) h))

pub read_back : ReadBack
unfolding tried_of read_answer pairs_of
read_back ps n h = rw (pairs_items ps h, pairs-good ps h, pairs-same ps h, take_all 32 ps n)

-- ---- the text of the pairs

-- bytes of pairs: digits, dots, colons and commas
module _ (s : ℕ) (d : is_digit s ≡ false) (e : eqb dot s ≡ false) (f : eqb colon s ≡ false)
    (g : eqb comma s ≡ false) where
  pub pairs-clean : (ps : List Pair) → clean s (pairs_text ps) ≡ true
  unfolding pairs_text
  pairs-clean [] = refl
  pairs-clean (p ∷ []) = pair-clean p s d e f
  pairs-clean (p ∷ q ∷ qs) = all_append (λ b. not (eqb b s)) (pair_text p) (comma ∷ pairs_text (q ∷ qs))
      (pair-clean p s d e f) (rw g (pairs-clean (q ∷ qs)))

-- a pair has at most 29 bytes
pair_small : (p : Pair) → Host p → length (pair_text p) ≤ 29
pair_small p h =
    let d : (k : ℕ) → Digits (octet_of p k) 3 = λ k. below_thousand (octet_of p k) (omega (arith, h.octet k)) in
    omega (
      arith,
      pair_size 0 p,
      (d 0).few,
      (d 1).few,
      (d 2).few,
      (d 3).few,
      (below-most p.port (omega (arith, h.most))).few,
    )

pub pairs_small : (ps : List Pair) → all is_host ps ≡ true → length (pairs_text ps) ≤ 30 * length ps
unfolding pairs_text
pairs_small [] h = omega arith
pairs_small (p ∷ []) h = omega (arith, pair_small p (host-first p [] h))
pairs_small (p ∷ q ∷ qs) h =
    omega (
      arith,
      pair_small p (host-first p (q ∷ qs) h),
      pairs_small (q ∷ qs) (and_snd (is_host p) (all is_host (q ∷ qs)) h),
      length-append (pair_text p)
          (comma ∷ pairs_text (q ∷ qs)),
    )
