-- Keys word by word.
use Prim.Native.Nat.{ℕ, zero, suc, ◌+◌, ◌-◌, ◌*◌, ◌/◌, ◌%◌, ◌≤◌, ◌<◌}
use mathlib.Core.Path.{◌≡◌, refl, sym, ap, ap₂, ◌∙◌}
use mathlib.Core.List.{List}
use native.Mathlib.Omega.{arith}
use lib.ListN.{length, take, drop, length-drop}
use lib.Seq.{take_all}
use lib.Bits.{bit_or, or_shifted}
use mir.Syntax.{w64}
use mir.Val.{Fits}
use borrow.Author.Tests.{lt-ltb, le-ltb}
use Rattle.std.specs.Int.{rotate_left}
use Rattle.laws.proofs.Parts.{part_tail}
use Rattle.names.specs.Chains.{word_of, mixed, twin_of, twin_in, key_from, last_twin, key_of}
use Rattle.names.proofs.Cases.{either}

-- no word before the last two
pub key-end : (n key : ℕ) (t : List ℕ) → length t ≤ 16 → key_from n key t ≡ key
unfolding key_from
key-end zero key t h = refl
key-end (suc n) key t h = rw (le-ltb 16 (length t) h)

-- two words before the last two; what is left has fewer bytes
key_step : (n key : ℕ) (t : List ℕ) → 16 < length t
    → key_from (suc n) key t ≡ key_from n (mixed key (twin_in t)) (drop 16 t)
unfolding key_from
key_step n key t h = rw (lt-ltb 16 (length t) h)

-- more words than there are bytes make no difference
key_fuel : (n m key : ℕ) (t : List ℕ) → length t ≤ n → length t ≤ m → key_from n key t ≡ key_from m key t
key_fuel zero m key t h g = key-end 0 key t (omega arith) ∙ sym (key-end m key t (omega arith))
key_fuel (suc n) zero key t h g = key-end (suc n) key t (omega arith) ∙ sym (key-end 0 key t (omega arith))
key_fuel (suc n) (suc m) key t h g =
    either (length t) 16
    (λ l. key-end (suc n) key t l ∙ sym (key-end (suc m) key t l))
    (λ l.
    key_step n key t l
    ∙ key_fuel n m (mixed key (twin_in t)) (drop 16 t) (simp length-drop (omega arith)) (simp length-drop (omega arith))
    ∙ sym (key_step m key t l))

-- two words before the last two
pub key-on : (key : ℕ) (t : List ℕ) → 16 < length t
    → key_from (length t) key t ≡ key_from (length (drop 16 t)) (mixed key (twin_in t)) (drop 16 t)
key-on key t h =
    let e : length t ≡ suc (length t - 1) = omega arith in
    ap (λ n. key_from n key t) e
    ∙ key_step (length t - 1) key t h
    ∙ key_fuel (length t - 1) (length (drop 16 t)) (mixed key (twin_in t)) (drop 16 t)
    (simp length-drop (omega arith)) (omega arith)

-- a text of fewer than eight bytes is both of its last words
pub short-twin : (t : List ℕ) (word : ℕ) → length t < 8 → word ≡ word_of t → twin_of word word ≡ last_twin t
short-twin t word h e =
    let y : length t - 16 ≡ 0 = omega arith in
    let z : length t - 8 ≡ 0 = omega arith in
    rw (y, z, take_all 8 t (omega arith), e)

-- one of eight bytes or more has two parts of eight
pub long-twin : (t : List ℕ) (from a b r : ℕ) → r ≡ twin_of a b → from ≡ length t - 16
    → a ≡ word_of (take (from + 8 - from) (drop from t))
    → b ≡ word_of (take (length t - (length t - 8)) (drop (length t - 8) t))
    → r ≡ last_twin t
long-twin t from a b r e f g h =
    let k : from + 8 - from ≡ 8 = omega arith in
    let u : a ≡ word_of (take 8 (drop (length t - 16) t)) = rw (k, f) at g in
    let v : b ≡ word_of (drop (length t - 8) t) = rw (part_tail (length t - 8) t) at h in
    e ∙ ap₂ twin_of u v

-- the words before the last two have been mixed
pub key-all : (t rest : List ℕ) (key : ℕ) → key_from (length rest) key rest ≡ key_from (length t) 0 t
    → length rest ≤ 16 → mixed key (last_twin t) ≡ key_of t
key-all t rest key i h = rw (sym i, key-end (length rest) key rest h)

-- a number turned by half its bits
pub turned-is : (n : ℕ) → n < 18446744073709551616
    → rotate_left w64 n 32 ≡ n % 4294967296 * 4294967296 + n / 4294967296
turned-is n h =
    let e : n * 4294967296 % 18446744073709551616 ≡ n % 4294967296 * 4294967296 = omega arith in
    ap (λ m. bit_or m (n / 4294967296)) e ∙ or_shifted (n % 4294967296) 32 (n / 4294967296) (omega arith)

-- a half times the prime with another half fits 64 bits
pub spread-fits : (a b : ℕ) → a < 4294967296 → b < 4294967296 → Fits w64 (a * 2654435761 + b)
spread-fits a b h g = omega arith
