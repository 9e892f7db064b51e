-- What the stores of a message leave, and that a whole message passed on is the message of RULES 7.6 and 9.3.
use Prim.Native.Nat.{ℕ, ◌+◌, ◌-◌, ◌≤◌, ◌<◌}
use mathlib.Core.Path.{◌≡◌, sym, ap, ap₂, ◌∙◌}
use mathlib.Core.List.{List, [], ◌∷◌, ◌++◌, append_assoc}
use native.Mathlib.Omega.{arith}
use lib.ListN.{length, get_or, take, drop, set, length-set, length-append, length-drop}
use lib.Seq.{sets-eq, take-take, take-suc, take-add, drop-drop, get_or-drop, length-take-le}
use borrow.Rule.Slice.PartMut.{put_mid}
use borrow.Author.Tests.{le-leb}
use Rattle.laws.specs.Bytes.{little_bytes}
use Rattle.laws.specs.Parts.{over, copied}
use Rattle.laws.proofs.Over.{rest-front, over-length, copied-whole}
use Rattle.laws.proofs.Writing.{stored_next, written_next, copied-part}
use Rattle.wire.specs.Header.{
  header_in,
  number_of,
  kind_of,
  ttl_of,
  hops_of,
  size_of,
  payload_of,
  header,
  message,
  with_header,
  query_type,
  hit_type,
}
use Rattle.wire.proofs.HeaderLaws.{header-length}
use Rattle.protocol.specs.Queries.{own_payload, own_bytes, life_of, query_on}
use Rattle.protocol.specs.Hits.{hit_on}
use Rattle.forwarding.specs.Messages.{passed_on}
use Rattle.laws.proofs.Passing.{store_inside, bytes_back}

-- TTL and Hops stored in a copy
pub passed-stored : (m out mid : List ℕ) (n ttl hops : ℕ) → 23 ≤ n → n ≤ length m → n ≤ length out
    → mid ≡ copied (take n m) out
    → set (set mid 17 ttl) 18 hops ≡ over 0 (passed_on m n ttl hops) out
passed-stored m out mid n ttl hops h k f e =
    let long : length (take n m) ≡ n = length-take-le n m k in
    let same : length (set (take n m) 17 ttl) ≡ n = length-set (take n m) 17 ttl ∙ long in
    ap (λ x. set (set x 17 ttl) 18 hops) (e ∙ copied-whole (take n m) out (omega arith))
    ∙ ap (λ x. set x 18 hops) (store_inside (take n m) out 17 ttl (omega arith))
    ∙ store_inside (set (take n m) 17 ttl) out 18 hops (omega arith)

-- a whole message passed on: the same number, type and payload
module _ (m : List ℕ) (ttl hops : ℕ) (whole : 23 + size_of m ≤ length m) (bytes : (i : ℕ) → get_or m i 0 < 256) where
  size-bytes : little_bytes 4 (size_of m) ≡ take 4 (drop 19 m)
  size-bytes =
      bytes_back 4 (drop 19 m) (omega (arith, length-drop 19 m)) (λ i. rw get_or-drop (bytes (19 + i)))

  payload-long : length (payload_of m) ≡ size_of m
  payload-long = length-take-le (size_of m) (drop 23 m) (omega (arith, length-drop 23 m))

  behind : drop 19 (take (23 + size_of m) m) ≡ little_bytes 4 (length (payload_of m)) ++ payload_of m
  behind =
      let long : length (take (23 + size_of m) m) - 19 ≡ 4 + size_of m =
      omega (arith, length-take-le (23 + size_of m) m whole) in
      sym (rest-front m 19 (23 + size_of m))
      ∙ ap (λ k. take k (drop 19 m)) long
      ∙ take-add 4 (size_of m) (drop 19 m)
      ∙ ap₂ ◌++◌ (sym size-bytes) (ap (take (size_of m)) (drop-drop 4 19 m))
      ∙ ap (λ k. little_bytes 4 k ++ payload_of m) (sym payload-long)

  front : take 17 (take (23 + size_of m) m) ≡ number_of m ++ (kind_of m ∷ [])
  front = take-take 17 (23 + size_of m) m (omega arith) ∙ take-suc m 16 0 (omega arith)

  pub passed-message : passed_on m (23 + size_of m) ttl hops ≡ message (number_of m) (kind_of m) ttl hops (payload_of m)
  unfolding message
  passed-message =
      sets-eq (ttl ∷ hops ∷ []) (take (23 + size_of m) m) 17 (omega (arith, length-take-le (23 + size_of m) m whole))
      ∙ ap₂ (λ x y. (x ++ (ttl ∷ hops ∷ [])) ++ y) front behind
      ∙ simp append_assoc

  -- whose type is known: a query, and a hit
  passed-kind : (kind : ℕ) → kind_of m ≡ kind
      → passed_on m (23 + size_of m) ttl hops ≡ message (number_of m) kind ttl hops (payload_of m)
  passed-kind kind e = passed-message ∙ ap (λ k. message (number_of m) k ttl hops (payload_of m)) e

module _ (m : List ℕ) (whole : 23 + size_of m ≤ length m) (bytes : (i : ℕ) → get_or m i 0 < 256) where
  pub query-bytes : (limit : ℕ) → kind_of m ≡ query_type
      → passed_on m (23 + size_of m) (life_of limit (header_in m) - 1) (hops_of m + 1) ≡ query_on limit m
  query-bytes limit = passed-kind m (life_of limit (header_in m) - 1) (hops_of m + 1) whole bytes query_type

  pub hit-bytes : kind_of m ≡ hit_type → passed_on m (23 + size_of m) (ttl_of m - 1) (hops_of m + 1) ≡ hit_on m
  hit-bytes = passed-kind m (ttl_of m - 1) (hops_of m + 1) whole bytes hit_type

-- what the stores of the speed behind a header leave
abbrev begun : List ℕ → List ℕ
begun mid = set (set mid 23 0) 24 0

pub begun-length : (mid : List ℕ) → length (begun mid) ≡ length mid
begun-length mid = length-set (set mid 23 0) 24 0 ∙ length-set mid 23 0

-- a query of one's own: its header, the speed, the text and the zero byte, each stored next to the one before
module _ (number text out : List ℕ) (limit : ℕ) (long : length number ≡ 16) (room : 26 + length text ≤ length out) where
  abbrev head : List ℕ
  head = header number query_type limit 0 (length text + 3)

  size : length text + 3 ≡ length (own_payload text)
  size = simp length-append (omega arith)

  head-long : length head ≡ 23
  head-long = header-length number query_type limit 0 [] long (length text + 3)

  begun-long : length (head ++ (0 ∷ 0 ∷ [])) ≡ 25
  begun-long = length-append head (0 ∷ 0 ∷ []) ∙ ap (λ k. k + 2) head-long

  whole : ((head ++ (0 ∷ 0 ∷ [])) ++ text) ++ (0 ∷ []) ≡ own_bytes limit number text
  unfolding message
  whole = rw size (simp append_assoc)

  pub own-stored : (mid left : List ℕ) → mid ≡ with_header number query_type limit 0 (length text + 3) out
      → left ≡ copied text (take (length (begun mid) - 25) (drop 25 (begun mid)))
      → set (put_mid 25 (length (begun mid) - 25) (begun mid) left) (25 + length text) 0
      ≡ over 0 (own_bytes limit number text) out
  unfolding with_header
  own-stored mid left e f =
      let b : begun mid ≡ over 0 (head ++ (0 ∷ 0 ∷ [])) out =
      stored_next 23 head (0 ∷ 0 ∷ []) out mid head-long (omega arith)
      (e ∙ (rw (le-leb 23 (length out) (omega arith)))) in
      let k : length (begun mid) ≡ length out =
      ap length b ∙ over-length 0 (head ++ (0 ∷ 0 ∷ [])) out (omega (arith, begun-long)) in
      let t : put_mid 25 (length (begun mid) - 25) (begun mid) left ≡ over 0 ((head ++ (0 ∷ 0 ∷ [])) ++ text) out =
      copied-part 25 (length (begun mid) - 25) text (begun mid) left (omega arith) (omega arith) f
      ∙ ap (over 25 text) b
      ∙ written_next 25 (head ++ (0 ∷ 0 ∷ [])) text out begun-long in
      let n : length ((head ++ (0 ∷ 0 ∷ [])) ++ text) ≡ 25 + length text =
      length-append (head ++ (0 ∷ 0 ∷ [])) text ∙ ap (λ k. k + length text) begun-long in
      stored_next (25 + length text) ((head ++ (0 ∷ 0 ∷ [])) ++ text) (0 ∷ []) out _ n (omega arith) t
      ∙ ap (λ bs. over 0 bs out) whole
