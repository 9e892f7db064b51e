-- The rules in words: the first line of a group.
use mathlib.Core.Path.{◌≡◌, refl, sym, ap, ap₂, ◌∙◌}
use mathlib.Core.Logic.{◌⊎◌, inl, inr, ⊎_elim}
use mathlib.Core.Bool.{Bool, true, false, cond, not, ◌||◌}
use mathlib.Core.List.{List, [], ◌∷◌, ◌++◌, append_assoc, append-nil}
use Prim.Native.Nat.{ℕ, zero, suc, ◌+◌, ◌≤◌, ◌<◌}
use native.Mathlib.Omega.{arith}
use native.Mathlib.Decide.{dec_lt}
use native.Mathlib.Nat.{zero-add}
use native.Mathlib.Numerals.{add-one}
use lib.Dec.{eqb, leb}
use lib.ListN.{length, get_or, take, drop, take-append-drop, length-append, length-take, drop_of_length-le}
use lib.ListN.{get_or-eq_default}
use lib.Seq.{length-take-le, get_or-append-add, take_all, take-suc, take-add, get_or-take, get_or-drop}
use lib.Seq.{get_or-append_seam}
use lib.Seq.{drop-append-add, drop-append_seam}
use borrow.Author.Tests.{eq-eqb, ne_eqb, eqb-true, eqb-false, le-leb, leb-true, not-true}
use Rattle.laws.specs.Tests.{every}
use Rattle.laws.proofs.Refusals.{clash, and_fst, and_snd, or_split, or_left, or_right, and_intro, Each, each}
use Rattle.groups.specs.declared.start.Version.{Version}
use Rattle.groups.specs.Start.{Start}
use Rattle.ascii.specs.Text.{is_digit, leading, compared, same, starts_with, digit_of, decimal_from, digit_count}
use Rattle.ascii.specs.Text.{digit_value}
use Rattle.groups.specs.Start.{greeting_text, reply_text, one_to_three, at_least06, version_length, behind_dot}
use Rattle.groups.specs.Start.{version_of, status_ok, is_status, no_start, greeting_from, greeting_of, reply_from}
use Rattle.groups.specs.Start.{behind_version, reply_of, start_of}
use Rattle.ascii.proofs.TextLaws.{run_length, leading-passes}
use Rattle.groups.specs.Words.{Digit, Number, one, two, three, Versioned, Greeting, GreetingExactly, Status}
use Rattle.groups.specs.Words.{Reply, ReplyExactly, GreetingOrReply, NoOtherKind}

-- ---- numbers

digit-true : (b : ℕ) → Digit b → is_digit b ≡ true
digit-true b h = rw (le-leb 48 b h.0, le-leb b 57 h.1)

true-digit : (b : ℕ) → is_digit b ≡ true → Digit b
true-digit b e = (leb-true 48 b (and_fst (leb 48 b) (leb b 57) e), leb-true b 57 (and_snd (leb 48 b) (leb b 57) e))

none_here : (k : ℕ) (t : List ℕ) → is_digit (get_or t 0 0) ≡ false → leading is_digit (take k t) ≡ 0
none_here zero t e = refl
none_here (suc k) [] e = refl
none_here (suc k) (b ∷ t) e = rw e

-- the digits at the front of a text that goes on with something else
module _ (t : List ℕ) (e : is_digit (get_or t 0 0) ≡ false) where
  number-count : {s : List ℕ} {n : ℕ} → Number s n → digit_count (s ++ t) ≡ length s
  number-count (one {x} p) = rw (digit-true x p, none_here 5 t e)
  number-count (two {x} {y} p q) = rw (digit-true x p, digit-true y q, none_here 4 t e)
  number-count (three {x} {y} {z} p q r) = rw (digit-true x p, digit-true y q, digit-true z r, none_here 3 t e)

  number-value : {s : List ℕ} {n : ℕ} → Number s n → digit_value (s ++ t) ≡ n
  unfolding digit_value digit_of
  number-value (one {x} p) = rw (number-count (one p), digit-true x p, zero-add)
  number-value (two {x} {y} p q) = rw (number-count (two p q), digit-true x p, digit-true y q, zero-add)
  number-value (three {x} {y} {z} p q r) =
      rw (number-count (three p q r), digit-true x p, digit-true y q, digit-true z r, zero-add)

number-length : {s : List ℕ} {n : ℕ} → Number s n → (1 ≤ length s) × (length s ≤ 3)
number-length (one p) = (omega arith, omega arith)
number-length (two p q) = (omega arith, omega arith)
number-length (three p q r) = (omega arith, omega arith)

-- one to three digits at the front are a number
take-number : (k : ℕ) (s : List ℕ) → 1 ≤ k → k ≤ 3 → k ≤ length s → ((i : ℕ) → i < k → is_digit (get_or s i 0) ≡ true)
    → Number (take k s) (decimal_from 0 (take k s))
unfolding digit_of
take-number zero s a b c h = absurd (omega arith)
take-number (suc k) [] a b c h = absurd (omega arith)
take-number (suc zero) (x ∷ s) a b c h = rw (h 0 (omega arith), zero-add) (one (true-digit x (h 0 (omega arith))))
take-number (suc (suc k)) (x ∷ []) a b c h = absurd (omega arith)
take-number (suc (suc zero)) (x ∷ y ∷ s) a b c h =
    rw (h 0 (omega arith), h 1 (omega arith), zero-add)
    (two (true-digit x (h 0 (omega arith))) (true-digit y (h 1 (omega arith))))
take-number (suc (suc (suc k))) (x ∷ y ∷ []) a b c h = absurd (omega arith)
take-number (suc (suc (suc zero))) (x ∷ y ∷ z ∷ s) a b c h =
    rw (h 0 (omega arith), h 1 (omega arith), h 2 (omega arith), zero-add)
    (three (true-digit x (h 0 (omega arith))) (true-digit y (h 1 (omega arith))) (true-digit z (h 2 (omega arith))))
take-number (suc (suc (suc (suc k)))) (x ∷ y ∷ z ∷ s) a b c h = absurd (omega arith)

digits-within : (s : List ℕ) → digit_count s ≤ length s
digits-within s = omega (arith, run_length (λ t. is_digit (get_or t 0 0)) (take 6 s), length-take 6 s)

front-number : (s : List ℕ) → 1 ≤ digit_count s → digit_count s ≤ 3 → Number (take (digit_count s) s) (digit_value s)
unfolding digit_value
front-number s a b =
    take-number (digit_count s) s a b (digits-within s)
    (λ i h. ap is_digit (sym (get_or-take 6 s i 0 (omega arith))) ∙ leading-passes is_digit (take 6 s) i h)

-- ---- versions

-- what holds of a version that is one
record Found (s : List ℕ) : Type 0 where
  some-major : 1 ≤ digit_count s
  few-major : digit_count s ≤ 3
  dot : get_or s (digit_count s) 0 ≡ 46
  some-minor : 1 ≤ digit_count (behind_dot s)
  few-minor : digit_count (behind_dot s) ≤ 3
  least : (1 ≤ digit_value s) ⊎ (6 ≤ digit_value (behind_dot s))
  size : (version_of s).length ≡ digit_count s + 1 + digit_count (behind_dot s)

one-to-three : (n : ℕ) → one_to_three n ≡ true → (1 ≤ n) × (n ≤ 3)
one-to-three n e = (leb-true 1 n (and_fst (leb 1 n) (leb n 3) e), leb-true n 3 (and_snd (leb 1 n) (leb n 3) e))

found : (s : List ℕ) → ((version_of s).length ≡ 0 → ⊥) → Found s
unfolding version_length
found s h = go (every tests) refl
  where
    a : ℕ
    a = digit_count s

    b : ℕ
    b = digit_count (behind_dot s)

    x : ℕ
    x = digit_value s

    y : ℕ
    y = digit_value (behind_dot s)

    tests : List Bool
    tests = one_to_three a ∷ eqb (get_or s a 0) 46 ∷ one_to_three b ∷ at_least06 x y ∷ []

    go : (t : Bool) → every tests ≡ t → Found s
    go false e = absurd (h (ap (λ t. cond t (a + 1 + b) 0) e))
    go true e =
        let k : Each tests = each tests e in
        let p = one-to-three a k.0 in
        let q = one-to-three b k.1.1.0 in
        let l = or_split (leb 1 x) (leb 6 y) k.1.1.1.0 in
        record {
          some-major = p.0;
          few-major = p.1;
          dot = eqb-true _ 46 k.1.0;
          some-minor = q.0;
          few-minor = q.1;
          least = ⊎_elim (λ u. inl (leb-true 1 x u)) (λ u. inr (leb-true 6 y u)) l;
          size = ap (λ t. cond t (a + 1 + b) 0) e;
        }

-- the bytes of the version at the front
versioned : (s : List ℕ) → ((version_of s).length ≡ 0 → ⊥)
    → Versioned (take (version_of s).length s) (digit_value s) (digit_value (behind_dot s))
versioned s h =
    record {
      left = take a s;
      right = take b (behind_dot s);
      is-major = front-number s f.some-major f.few-major;
      is-minor = front-number (behind_dot s) f.some-minor f.few-minor;
      least = f.least;
      whole =
          ap (λ n. take n s) f.size
          ∙ take-add (a + 1) b s
          ∙ ap (λ x. x ++ take b (behind_dot s)) with_dot
          ∙ append_assoc (take a s) (46 ∷ []) (take b (behind_dot s));
    }
  where
    f : Found s
    f = found s h

    a : ℕ
    a = digit_count s

    b : ℕ
    b = digit_count (behind_dot s)

    within : a < length s
    within = go (dec_lt a (length s))
      where
        go : Dec (a < length s) → a < length s
        go (yes p) = p
        go (no p) = absurd (omega (arith, f.dot, get_or-eq_default s 0 {n = a} (omega arith)))

    with_dot : take (a + 1) s ≡ take a s ++ (46 ∷ [])
    with_dot = ap (λ n. take n s) (add-one a) ∙ take-suc s a 0 within ∙ ap (λ x. take a s ++ (x ∷ [])) f.dot

versioned_as : {x y : List ℕ} {a b c d : ℕ} → x ≡ y → a ≡ b → c ≡ d → Versioned x a c → Versioned y b d
versioned_as p q r v = rw (p, q, r) at v

-- a version in words, with something behind it that is no digit
module _ (text t : List ℕ) (major minor : ℕ) (v : Versioned text major minor) (e : is_digit (get_or t 0 0) ≡ false) where
  abbrev rest : List ℕ
  rest = v.right ++ t

  split : text ++ t ≡ v.left ++ (46 ∷ rest)
  split = ap (λ x. x ++ t) v.whole ∙ append_assoc v.left (46 ∷ v.right) t

  -- the number before the dot
  count₁ : digit_count (v.left ++ (46 ∷ rest)) ≡ length v.left
  count₁ = number-count (46 ∷ rest) refl v.is-major

  value₁ : digit_value (v.left ++ (46 ∷ rest)) ≡ major
  value₁ = number-value (46 ∷ rest) refl v.is-major

  behind-is : behind_dot (v.left ++ (46 ∷ rest)) ≡ rest
  behind-is = ap (λ n. drop (n + 1) (v.left ++ (46 ∷ rest))) count₁ ∙ drop-append-add v.left (46 ∷ rest) 1

  -- and the one behind it
  count₂ : digit_count rest ≡ length v.right
  count₂ = number-count t e v.is-minor

  value₂ : digit_value rest ≡ minor
  value₂ = number-value t e v.is-minor

  least-is : (1 ≤ major) ⊎ (6 ≤ minor) → (leb 1 major || leb 6 minor) ≡ true
  least-is (inl u) = or_left (leb 1 major) (leb 6 minor) (le-leb 1 major u)
  least-is (inr u) = or_right (leb 1 major) (leb 6 minor) (le-leb 6 minor u)

  few-is : (n : ℕ) → (1 ≤ n) × (n ≤ 3) → one_to_three n ≡ true
  few-is n h = and_intro (leb 1 n) (leb n 3) (le-leb 1 n h.0) (le-leb n 3 h.1)

  length-is : (version_of (v.left ++ (46 ∷ rest))).length ≡ length text
  unfolding version_length
  length-is =
      rw (
        behind-is,
        count₁,
        value₁,
        count₂,
        value₂,
        get_or-append_seam,
        few-is (length v.left) (number-length v.is-major),
        few-is (length v.right)
            (number-length v.is-minor),
        least-is v.least,
      )
      (omega (arith, ap length v.whole, length-append v.left (46 ∷ v.right)))

  version_is : version_of (text ++ t) ≡ record { length = length text; major = major; minor = minor }
  version_is =
      ap version_of split
      ∙ rw (length-is, behind-is, value₁, value₂)

version_some : (text : List ℕ) (major minor : ℕ) → Versioned text major minor → length text ≡ 0 → ⊥
version_some text major minor v z = omega (arith, ap length v.whole, length-append v.left (46 ∷ v.right))

-- ---- the word at the front

same_exact : (a b : List ℕ) → same false a b ≡ true → a ≡ b
unfolding compared
same_exact [] [] e = refl
same_exact [] (y ∷ b) e = absurd (clash e refl)
same_exact (x ∷ a) [] e = absurd (clash e refl)
same_exact (x ∷ a) (y ∷ b) e =
    ap₂
    (λ u v. u ∷ v)
    (eqb-true x y (and_fst (eqb x y) (same false a b) e))
    (same_exact a b (and_snd (eqb x y) (same false a b) e))

starts_is : (p s : List ℕ) → starts_with p s ≡ true → s ≡ p ++ drop (length p) s
starts_is p s e =
    sym (take-append-drop (length p) s)
    ∙ ap (λ x. x ++ drop (length p) s) (sym (same_exact p (take (length p) s) e))

-- ---- greetings

abbrev greeting : ℕ → ℕ → Start
greeting major minor = record { kind = 1; major = major; minor = minor; code = 0 }

abbrev reply : ℕ → ℕ → ℕ → Start
reply major minor code = record { kind = 2; major = major; minor = minor; code = code }

abbrev kind_of : Start → ℕ
kind_of s = s.kind

-- of a choice that is not the one of kind 0, the test holds
chosen : (t : Bool) (s r : Start) → cond t s no_start ≡ r → (kind_of r ≡ 0 → ⊥) → (t ≡ true) × (s ≡ r)
chosen true s r e h = (refl, e)
chosen false s r e h = absurd (h (sym (ap kind_of e)))

greeting-kind : (v : Version) (size : ℕ) → kind_of (greeting_from v size) ≤ 1
unfolding greeting_from
greeting-kind v size = go (every (not (eqb v.length 0) ∷ eqb v.length size ∷ []))
  where
    go : (t : Bool) → kind_of (cond t (greeting v.major v.minor) no_start) ≤ 1
    go true = omega arith
    go false = omega arith

reply-kind : (v : Version) (status : Bool) (code : ℕ) → kind_of (reply_from v status code) ≡ 1 → ⊥
unfolding reply_from
reply-kind v status code e = go (every (not (eqb v.length 0) ∷ status ∷ [])) e
  where
    go : (t : Bool) → kind_of (cond t (reply v.major v.minor code) no_start) ≡ 1 → ⊥
    go true e = omega arith
    go false e = omega arith

not-zero : (n : ℕ) → not (eqb n 0) ≡ true → n ≡ 0 → ⊥
not-zero n e = eqb-false n 0 (not-true (eqb n 0) e)

module _ (s : List ℕ) (major minor : ℕ) where
  greeting-forth : greeting_of s ≡ greeting major minor → Versioned s major minor
  unfolding greeting_from
  greeting-forth e =
      let v = version_of s in
      let tests : List Bool = not (eqb v.length 0) ∷ eqb v.length (length s) ∷ [] in
      let c = chosen (every tests) (greeting v.major v.minor) (greeting major minor) e (λ z. omega arith) in
      let k = each tests c.0 in
      let n : v.length ≡ length s = eqb-true _ _ k.1.0 in
      let a : digit_value s ≡ major = ap (λ (x : Start). x.major) c.1 in
      let b : digit_value (behind_dot s) ≡ minor = ap (λ (x : Start). x.minor) c.1 in
      versioned_as (take_all v.length s (omega arith)) a b (versioned s (not-zero v.length k.0))

  greeting-back : Versioned s major minor → greeting_of s ≡ greeting major minor
  unfolding greeting_from
  greeting-back v =
      let e = ap version_of (sym (append-nil s)) ∙ version_is s [] major minor v refl in
      ap (λ x. greeting_from x (length s)) e
      ∙ rw (eq-eqb (length s) (length s) refl, ne_eqb (length s) 0 (version_some s major minor v))

pub greeting-exactly : GreetingExactly
unfolding start_of compared
greeting-exactly line major minor = (forth, back)
  where
    forth : start_of line ≡ greeting major minor → Greeting line major minor
    forth e = go (starts_with greeting_text line) (starts_with reply_text line) refl e
      where
        go : (t u : Bool) → starts_with greeting_text line ≡ t
            → cond t (greeting_of (drop 17 line)) (cond u (reply_of (drop 9 line)) no_start) ≡ greeting major minor
            → Greeting line major minor
        go true u p e = (drop 17 line, greeting-forth (drop 17 line) major minor e, starts_is greeting_text line p)
        go false true p e = absurd (reply-kind _ _ _ (ap kind_of e))
        go false false p e = absurd (omega (arith, ap kind_of e))

    back : Greeting line major minor → start_of line ≡ greeting major minor
    back h = ap start_of h.2 ∙ greeting-back h.0 major minor h.1

-- ---- replies

status_forth : (s : List ℕ) → is_status s ≡ true → Status s (digit_value (drop 1 s))
unfolding status_ok
status_forth [] e = absurd (clash e refl)
status_forth (x ∷ s) e =
    let few = leb (length (x ∷ s)) 4 in
    let space = eqb (get_or s 3 0) 32 in
    let k = each (eqb x 32 ∷ eqb (digit_count s) 3 ∷ (few || space) ∷ []) e in
    let n : digit_count s ≡ 3 = eqb-true _ 3 k.1.0 in
    record {
      digits = take 3 s;
      text = drop 3 s;
      is_code = rw n at (front-number s (omega arith) (omega arith));
      three-digits = length-take-le 3 s (omega (arith, digits-within s));
      ending = ⊎_elim (λ u. inl (none_left u)) (λ u. inr (get_or-drop 3 s 0 0 ∙ eqb-true _ 32 u))
          (or_split few space k.1.1.0);
      whole = ap₂ (λ u v. u ∷ v) (eqb-true x 32 k.0) (sym (take-append-drop 3 s));
    }
  where
    none_left : leb (length (x ∷ s)) 4 ≡ true → drop 3 s ≡ []
    none_left u = drop_of_length-le s {i = 3} (omega (arith, leb-true (length (x ∷ s)) 4 u))

-- no digit stands where the text begins or there is none
no_digit : (text : List ℕ) → (text ≡ []) ⊎ (get_or text 0 0 ≡ 32) → is_digit (get_or text 0 0) ≡ false
no_digit text h = ⊎_elim (λ e. ap (λ t. is_digit (get_or t 0 0)) e) (λ e. ap is_digit e) h

module _ (digits text : List ℕ) (n : length digits ≡ 3) where
  abbrev few : Bool
  few = leb (length (32 ∷ (digits ++ text))) 4

  abbrev space : Bool
  space = eqb (get_or (digits ++ text) 3 0) 32

  at-three : 3 ≡ length digits + 0
  at-three = omega arith

  ends-well : (text ≡ []) ⊎ (get_or text 0 0 ≡ 32) → (few || space) ≡ true
  ends-well (inl e) =
      let n : length (32 ∷ (digits ++ text)) ≤ 4 = omega (arith, length-append digits text, ap length e) in
      or_left few space (le-leb (length (32 ∷ (digits ++ text))) 4 n)
  ends-well (inr e) =
      let s = ap (λ k. get_or (digits ++ text) k 0) at-three ∙ get_or-append-add digits text 0 0 ∙ e in
      or_right few space (eq-eqb (get_or (digits ++ text) 3 0) 32 s)

module _ {status : List ℕ} {code : ℕ} (h : Status status code) where
  no_more : is_digit (get_or h.text 0 0) ≡ false
  no_more = no_digit h.text h.ending

  status_back : is_status status ≡ true
  unfolding status_ok
  status_back =
      ap is_status h.whole
      ∙ rw (
        number-count h.text no_more h.is_code,
        h.three-digits,
        ends-well h.digits h.text h.three-digits h.ending,
      )

  code-back : digit_value (drop 1 status) ≡ code
  code-back = ap (λ s. digit_value (drop 1 s)) h.whole ∙ number-value h.text no_more h.is_code

  behind_version_lem : is_digit (get_or status 0 0) ≡ false
  behind_version_lem = ap (λ s. is_digit (get_or s 0 0)) h.whole

module _ (s : List ℕ) (major minor code : ℕ) where
  reply-forth : reply_of s ≡ reply major minor code
      → (version : List ℕ) × (status : List ℕ) × Versioned version major minor × Status status code
      × (s ≡ version ++ status)
  unfolding reply_from
  reply-forth e =
      let v = version_of s in
      let t = is_status (behind_version s) in
      let d = digit_value (drop 1 (behind_version s)) in
      let tests : List Bool = not (eqb v.length 0) ∷ t ∷ [] in
      let c = chosen (every tests) (reply v.major v.minor d) (reply major minor code) e (λ z. omega arith) in
      let k = each tests c.0 in
      let a : digit_value s ≡ major = ap (λ (x : Start). x.major) c.1 in
      let b : digit_value (behind_dot s) ≡ minor = ap (λ (x : Start). x.minor) c.1 in
      let f : d ≡ code = ap (λ (x : Start). x.code) c.1 in (
        take v.length s,
        behind_version s,
        versioned_as refl a b (versioned s (not-zero v.length k.0)),
        rw f at (status_forth (behind_version s) k.1.0),
        sym (take-append-drop v.length s),
      )

reply-back : (version status : List ℕ) (major minor code : ℕ) → Versioned version major minor → Status status code
    → reply_of (version ++ status) ≡ reply major minor code
unfolding reply_from
reply-back version status major minor code v h =
    let s = version ++ status in
    let e = version_is version status major minor v (behind_version_lem h) in
    let b : behind_version s ≡ status = ap (λ (x : Version). drop x.length s) e ∙ drop-append_seam version status in
    ap₂ (λ x y. reply_from x (is_status y) (digit_value (drop 1 y))) e b
    ∙ rw (ne_eqb (length version) 0 (version_some version major minor v), status_back h, code-back h)

pub reply-exactly : ReplyExactly
unfolding start_of compared
reply-exactly line major minor code = (forth, back)
  where
    forth : start_of line ≡ reply major minor code → Reply line major minor code
    forth e = go (starts_with greeting_text line) (starts_with reply_text line) refl e
      where
        go : (t u : Bool) → starts_with reply_text line ≡ u
            → cond t (greeting_of (drop 17 line)) (cond u (reply_of (drop 9 line)) no_start) ≡ reply major minor code
            → Reply line major minor code
        go true u p e =
            absurd (omega (arith, greeting-kind (version_of (drop 17 line)) (length (drop 17 line)), ap kind_of e))
        go false true p e =
            let q = reply-forth (drop 9 line) major minor code e in
            (q.0, q.1, q.2, q.3, starts_is reply_text line p ∙ ap (λ x. reply_text ++ x) q.4)
        go false false p e = absurd (omega (arith, ap kind_of e))

    back : Reply line major minor code → start_of line ≡ reply major minor code
    back h = ap start_of h.4 ∙ reply-back h.0 h.1 major minor code h.2 h.3

-- a first line is of one of three kinds
data Kinds (s : Start) : Type 0 where
  none : s.kind ≡ 0 → Kinds s
  first : s ≡ greeting s.major s.minor → Kinds s
  second : s ≡ reply s.major s.minor s.code → Kinds s

greeting-kinds : (v : Version) (size : ℕ) → Kinds (greeting_from v size)
unfolding greeting_from
greeting-kinds v size = go (every (not (eqb v.length 0) ∷ eqb v.length size ∷ []))
  where
    go : (t : Bool) → Kinds (cond t (greeting v.major v.minor) no_start)
    go true = first refl
    go false = none refl

reply-kinds : (v : Version) (status : Bool) (code : ℕ) → Kinds (reply_from v status code)
unfolding reply_from
reply-kinds v status code = go (every (not (eqb v.length 0) ∷ status ∷ []))
  where
    go : (t : Bool) → Kinds (cond t (reply v.major v.minor code) no_start)
    go true = second refl
    go false = none refl

kinds : (line : List ℕ) → Kinds (start_of line)
unfolding start_of
kinds line = go (starts_with greeting_text line) (starts_with reply_text line)
  where
    go : (t u : Bool) → Kinds (cond t (greeting_of (drop 17 line)) (cond u (reply_of (drop 9 line)) no_start))
    go true u = greeting-kinds (version_of (drop 17 line)) (length (drop 17 line))
    go false true =
        let status = behind_version (drop 9 line) in
        reply-kinds (version_of (drop 9 line)) (is_status status) (digit_value (drop 1 status))
    go false false = none refl

pub no-other-kind : NoOtherKind
no-other-kind line h = go (kinds line)
  where
    go : Kinds (start_of line) → GreetingOrReply line (start_of line)
    go (none e) = absurd (h e)
    go (first e) = inl ((greeting-exactly line _ _).0 e)
    go (second e) = inr ((reply-exactly line _ _ _).0 e)
