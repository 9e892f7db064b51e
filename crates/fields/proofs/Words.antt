-- Fields in words.
use mathlib.Core.Path.{◌≡◌, refl, ap}
use mathlib.Core.Logic.{⊎_elim}
use mathlib.Core.Bool.{true, ◌||◌}
use mathlib.Core.List.{List}
use Prim.Native.Nat.{ℕ, ◌+◌, ◌<◌}
use native.Mathlib.Omega.{arith}
use native.Mathlib.Decide.{dec_lt}
use lib.Dec.{eqb, ltb}
use lib.ListN.{length, get_or, drop, get_or-eq_default}
use borrow.Author.Tests.{eq-eqb, ne_eqb, eqb-true, lt-ltb, ltb-true, not-true}
use Rattle.laws.proofs.Refusals.{clash, and_fst, and_snd, or_fst, or_snd}
use Rattle.ascii.specs.Text.{is_blank, is_name, leading}
use Rattle.ascii.specs.Words.{Blank}
use Rattle.fields.specs.Fields.{name_length, is_field}
use Rattle.fields.specs.Words.{NameByte, NamedBy, FieldExactly, Unblanked, FieldParts, ContinuesExactly}
use Rattle.ascii.proofs.TextLaws.{leading-passes, leading-stops, leading-is}
use Rattle.ascii.proofs.Words.{blank-exactly, not-blank}

pub continues-exactly : ContinuesExactly
continues-exactly line = blank-exactly (get_or line 0 0)

name-byte : (b : ℕ) → is_name b ≡ true → NameByte b
name-byte b h =
    let e = not-true (is_blank b || eqb b 58) h in
    let no-blank = or_fst (is_blank b) (eqb b 58) e in
    let no-colon = or_snd (is_blank b) (eqb b 58) e in
    (λ k. clash ((blank-exactly b).1 k) no-blank, λ k. clash (eq-eqb b 58 k) no-colon)

byte-name : (b : ℕ) → NameByte b → is_name b ≡ true
byte-name b h = rw (not-blank b h.0, ne_eqb b 58 h.1)

module _ (line : List ℕ) (n : ℕ) (h : NamedBy line n) where
  colon-there : n < length line
  colon-there = go (dec_lt n (length line))
    where
      go : Dec (n < length line) → n < length line
      go (yes p) = p
      go (no p) = absurd (omega (arith, h.1, get_or-eq_default line 0 {n = n} (omega arith)))

  name-is : name_length line ≡ n
  name-is = leading-is is_name line n (λ i p. byte-name (get_or line i 0) (h.2 i p)) colon-there (ap is_name h.1)

  field_is : is_field line ≡ true
  field_is = rw (name-is, lt-ltb 0 n h.0, eq-eqb _ 58 h.1)

pub field-exactly : FieldExactly
field-exactly line = (forth, λ h. field_is line h.0 h.1)
  where
    n : ℕ
    n = name_length line

    forth : is_field line ≡ true → (n : ℕ) × NamedBy line n
    forth e = (
      n,
      (
        ltb-true 0 n (and_fst (ltb 0 n) (eqb (get_or line n 0) 58) e),
        eqb-true _ 58 (and_snd (ltb 0 n) (eqb (get_or line n 0) 58) e),
        λ i p. name-byte (get_or line i 0) (leading-passes is_name line i p),
      ),
    )

unblanked : (text : List ℕ) → Unblanked text (drop (leading is_blank text) text)
unblanked text =
    record {
      count = leading is_blank text;
      blanks = λ i p. (blank-exactly (get_or text i 0)).0 (leading-passes is_blank text i p);
      stops = stops (dec_lt (leading is_blank text) (length text));
      rest = refl;
    }
  where
    no_zero : (b : ℕ) → b ≡ 0 → Blank b → ⊥
    no_zero b e k = ⊎_elim (λ q. omega arith) (λ q. omega arith) k

    stops : Dec (leading is_blank text < length text) → Blank (get_or text (leading is_blank text) 0) → ⊥
    stops (yes p) k = clash ((blank-exactly _).1 k) (leading-stops is_blank text p)
    stops (no p) k = no_zero _ (get_or-eq_default text 0 {n = leading is_blank text} (omega arith)) k

pub field-parts : FieldParts
field-parts line n h = rw (name-is line n h) (refl, unblanked (drop (n + 1) line))
