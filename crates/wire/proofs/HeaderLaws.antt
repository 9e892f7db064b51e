-- What the stores of a header leave, and what is read off a message that was written: it is whole.
use Prim.Native.Nat.{ℕ, ◌+◌, ◌-◌, ◌≤◌, ◌<◌}
use mathlib.Core.Path.{◌≡◌, refl, sym, ap, ap₂, ◌∙◌}
use mathlib.Core.List.{List, [], ◌∷◌, ◌++◌, append_assoc}
use native.Mathlib.Nat.{zero-add}
use native.Mathlib.Omega.{arith}
use lib.ListN.{length, get_or, take, drop, length-append}
use lib.Seq.{sets, take_at, take-length, drop-drop, drop-append-add, get_or-append-add}
use borrow.Author.Tests.{le-leb}
use Rattle.laws.specs.Bytes.{little, little_bytes}
use Rattle.laws.specs.Parts.{over}
use borrow.Rule.Slice.PartMut.{put_mid}
use Rattle.laws.proofs.Writing.{stored_next, written_next, little_of_bytes}
use Rattle.wire.specs.Header.{with_header, header, message, number_of, kind_of, ttl_of, hops_of, size_of, payload_of}

-- with room for it, the header stands at the front
pub header-room : (number : List ℕ) (kind ttl hops n : ℕ) (out : List ℕ) → 23 ≤ length out
    → with_header number kind ttl hops n out ≡ over 0 (header number kind ttl hops n) out
unfolding with_header
header-room number kind ttl hops n out h = rw (le-leb 23 (length out) h)

-- a part of just so many bytes, lent and written whole
part-whole : (from n : ℕ) (bs area : List ℕ) → length bs ≡ n → put_mid from n area bs ≡ over from bs area
part-whole from n bs area e =
    ap (λ x. take from area ++ (bs ++ x)) (ap (λ k. drop k (drop from area)) (sym e) ∙ drop-drop (length bs) from area)

-- the number at the front, type, TTL and Hops behind it, and the four bytes of the size behind them
pub header-stored : (number out bytes : List ℕ) (kind ttl hops n : ℕ) → length number ≡ 16 → 23 ≤ length out
    → bytes ≡ little_bytes 4 n
    → put_mid 19 4 (put_mid 16 3 (number ++ drop 16 out) (kind ∷ ttl ∷ hops ∷ [])) bytes
    ≡ with_header number kind ttl hops n out
header-stored number out bytes kind ttl hops n e h b =
    let three = kind ∷ ttl ∷ hops ∷ [] in
    let l : length (number ++ three) ≡ 19 = omega (arith, length-append number three) in
    ap (λ k. put_mid 19 4 (put_mid 16 3 (number ++ drop k out) three) bytes) (sym (zero-add (length number) ∙ e))
    ∙ ap (λ x. put_mid 19 4 x bytes) (part-whole 16 3 three (over 0 number out) refl ∙ written_next 16 number three out e)
    ∙ ap (put_mid 19 4 (over 0 (number ++ three) out)) b
    ∙ part-whole 19 4 (little_bytes 4 n) (over 0 (number ++ three) out) refl
    ∙ written_next 19 (number ++ three) (little_bytes 4 n) out l
    ∙ ap (λ x. over 0 x out) (append_assoc number three (little_bytes 4 n))
    ∙ sym (header-room number kind ttl hops n out h)

-- a message that was written: its length and its fields
module _ (number : List ℕ) (kind ttl hops : ℕ) (payload : List ℕ) (long : length number ≡ 16) where
  pub header-length : (n : ℕ) → length (header number kind ttl hops n) ≡ 23
  header-length n = simp length-append (ap (λ k. k + 7) long)

  pub message-length : length (message number kind ttl hops payload) ≡ 23 + length payload
  unfolding message
  message-length =
      length-append (header number kind ttl hops (length payload)) payload ∙ ap (λ k. k + length payload)
      (header-length (length payload))

  abbrev behind : List ℕ
  behind = kind ∷ ttl ∷ hops ∷ (little_bytes 4 (length payload) ++ payload)

  parted : message number kind ttl hops payload ≡ number ++ behind
  unfolding message
  parted = append_assoc number (kind ∷ ttl ∷ hops ∷ little_bytes 4 (length payload)) payload

  at_16 : (k : ℕ) → get_or (message number kind ttl hops payload) (16 + k) 0 ≡ get_or behind k 0
  at_16 k = ap₂ (λ m n. get_or m (n + k) 0) parted (sym long) ∙ get_or-append-add number behind k 0

  from_16 : (k : ℕ) → drop (16 + k) (message number kind ttl hops payload) ≡ drop k behind
  from_16 k = ap₂ (λ m n. drop (n + k) m) parted (sym long) ∙ drop-append-add number behind k

  pub message-number : number_of (message number kind ttl hops payload) ≡ number
  message-number = ap (take 16) parted ∙ take_at number behind 16 long

  pub message-kind : kind_of (message number kind ttl hops payload) ≡ kind
  message-kind = at_16 0

  pub message-ttl : ttl_of (message number kind ttl hops payload) ≡ ttl
  message-ttl = at_16 1

  pub message-hops : hops_of (message number kind ttl hops payload) ≡ hops
  message-hops = at_16 2

  -- its header's size field is its payload's length
  pub message-size : length payload < 4294967296 → size_of (message number kind ttl hops payload) ≡ length payload
  message-size h = ap (λ l. little (take 4 l)) (from_16 3) ∙ little_of_bytes (length payload) h

  pub message-payload : length payload < 4294967296 → payload_of (message number kind ttl hops payload) ≡ payload
  message-payload h = ap₂ take (message-size h) (from_16 7) ∙ take-length payload

  -- the payload stored behind the header
  pub message-stored : (out mid : List ℕ) → 23 + length payload ≤ length out → mid ≡ with_header number kind ttl hops
      (length payload) out
      → sets mid 23 payload ≡ over 0 (message number kind ttl hops payload) out
  unfolding message
  message-stored out mid h m =
      stored_next 23 (header number kind ttl hops (length payload)) payload out mid (header-length (length payload)) h
      (m ∙ header-room number kind ttl hops (length payload) out (omega arith))

-- the code's `&m[23..23 + size]`
pub payload-part : (m : List ℕ) (size : ℕ) → size ≡ size_of m → take (23 + size - 23) (drop 23 m) ≡ payload_of m
payload-part m size e = let k : 23 + size - 23 ≡ size_of m = omega (arith, e) in rw k
