-- Laws of the groups that are written.
use Prim.Native.Nat.{ℕ, ◌+◌, ◌-◌, ◌≤◌, ◌<◌}
use mathlib.Core.Path.{◌≡◌, refl, sym, ap, ap₂, ◌∙◌}
use mathlib.Core.Bool.{true, false}
use mathlib.Core.List.{List, [], ◌∷◌, ◌++◌, append_assoc}
use native.Mathlib.Nat.{zero-add}
use native.Mathlib.Omega.{arith}
use lib.Dec.{leb}
use lib.ListN.{length, take, drop, length-append, length-take, length-drop}
use lib.Seq.{take_all}
use borrow.Author.Tests.{lt-ltb, le-ltb, le-leb}
use borrow.Rule.Slice.PartMut.{put_mid}
use Rattle.laws.specs.Parts.{over}
use Rattle.laws.specs.Text.{codes}
use Rattle.laws.proofs.Text.{over_append}
use Rattle.laws.proofs.Over.{over-copied, over-length, over-front}
use Rattle.fields.proofs.FieldLaws.{over-part}
use Rattle.xtry.specs.Pairs.{space}
use Rattle.xtry.specs.Writing.{pairs_text, pairs_in, can_write, led, led_size, led_over}
use Rattle.xtry.specs.declared.Pair.{Pair}
use Rattle.xtry.specs.declared.Pairs.{Pairs}
use Rattle.xtry.proofs.Listing.{led-joined}
use Rattle.handshake.specs.Groups.{crlf, busy_line, try_line, busy_bytes, named_bytes, text_answer, busy_answer}
use Rattle.handshake.specs.Groups.{wrote_of, area_of}
use Rattle.handshake.specs.declared.Wrote.{Wrote}

-- `bytes::copy(text, area)`
copied : (text area : List ℕ) → take (length text) text ++ drop (length text) area ≡ over 0 text area
copied text area = ap₂ (λ x k. x ++ drop k area) (take_all (length text) text (omega arith))
    (sym (zero-add (length text)))

-- ---- a text that is written whole, or not at all

module _ (text area : List ℕ) where
  abbrev Whole : Wrote → List ℕ → Type 0
  Whole r after = (r ≡ wrote_of (text_answer (length area) text) text)
      × (after ≡ area_of (text_answer (length area) text) text area)

  pub whole-short : length area < length text → Whole (record { answer = 2; written = 0 }) area
  unfolding wrote_of text_answer area_of
  whole-short h = (rw (lt-ltb (length area) (length text) h), rw (lt-ltb (length area) (length text) h))

  pub whole-put : (after : List ℕ) (n : ℕ) → length text ≤ length area → n ≡ length text → after ≡ take (length text)
      text ++ drop (length text) area
      → Whole (record { answer = 0; written = n }) after
  unfolding wrote_of text_answer area_of
  whole-put after n h e f =
      let room = le-ltb (length area) (length text) h in
      (rw (room, e), rw room (f ∙ copied text area))

-- ---- the reply that names pairs

abbrev pub named_head : List ℕ
named_head = busy_line ++ (crlf ++ codes "X-Try:")

-- some pairs
pub busy-named : (ps : List Pair) → (length ps ≡ 0 → ⊥) → busy_bytes ps ≡ named_bytes ps
unfolding busy_bytes try_line named_bytes
busy-named [] h = absurd (h refl)
busy-named (p ∷ ps) h = rw (led-joined space p ps, append_assoc (pairs_text (p ∷ ps)) crlf crlf)

-- its three parts, each put where the one before it ends
module _ (pairs : Pairs) (area first : List ℕ) (room : 1024 ≤ length area)
    (f : first ≡ take 29 named_head ++ drop 29 area) where
  abbrev text : List ℕ
  text = led space (pairs_in pairs)

  abbrev part : List ℕ
  part = take (length first - 29) (drop 29 first)

  first-is : first ≡ over 0 named_head area
  first-is = f ∙ copied named_head area

  sized : length first ≡ length area
  sized = ap length first-is ∙ over-length 0 named_head area (omega arith)

  has_room : leb 960 (length part) ≡ true
  has_room = le-leb 960 (length part) (simp (length-take, length-drop) (omega (arith, sized)))

  module _ (n : ℕ) (e : n ≡ led_size space pairs (length part)) (most : n ≤ 960) where
    count-is : n ≡ length text
    count-is = e ∙ rw has_room

    pub busy-size : (29 + n + 4 ≡ length (named_bytes (pairs_in pairs))) × (29 + n + 4 ≤ 1024)
    unfolding named_bytes
    busy-size = (simp length-append (omega (arith, count-is)), omega arith)

    module _ (ys mid : List ℕ) (g : ys ≡ led_over space pairs part)
        (h : mid ≡ put_mid 29 (length first - 29) first ys) where
      mid_is : mid ≡ over 29 text first
      mid_is = h ∙ over-copied 29 text first ys (g ∙ rw has_room (sym (copied text part)))

      pub busy-fits : 29 + n + 4 ≤ length mid
      busy-fits = omega (arith, ap length mid_is, over-length 29 text first (omega (arith, count-is, sized)), sized)

      busy-over : over (29 + n) (crlf ++ crlf) mid ≡ over 0 (named_bytes (pairs_in pairs)) area
      unfolding named_bytes
      busy-over =
          ap₂ (λ i x. over (29 + i) (crlf ++ crlf) x) count-is mid_is
          ∙ over_append 29 text (crlf ++ crlf) first (omega (arith, count-is, sized))
          ∙ ap (over 29 (text ++ (crlf ++ crlf))) first-is
          ∙ over_append 0 named_head (text ++ (crlf ++ crlf)) area (omega arith)

      -- the last four bytes put in a part of four
      pub busy-put : (k : ℕ) (zs : List ℕ) → k ≡ 4 → zs ≡ crlf ++ crlf
          → put_mid (29 + n) k mid zs ≡ over 0 (named_bytes (pairs_in pairs)) area
      busy-put k zs e z = over-part (29 + n) (crlf ++ crlf) mid zs k e z ∙ busy-over

      pub busy-all : (zs : List ℕ) → zs ≡ take 4 (crlf ++ crlf) ++ drop 4
          (take (length mid - (29 + n)) (drop (29 + n) mid))
          → put_mid (29 + n) (length mid - (29 + n)) mid zs ≡ over 0 (named_bytes (pairs_in pairs)) area
      busy-all zs k =
          over-copied (29 + n) (crlf ++ crlf) mid zs k
          ∙ busy-over

-- the reply at the front of an area, taken alone
taken_is : (named zeros text : List ℕ) (n : ℕ) → n ≡ length named → text ≡ over 0 named zeros → take n text ≡ named
taken_is named zeros t n e f = ap₂ take e f ∙ over-front named zeros

pub busy-taken : (named zeros text : List ℕ) (n : ℕ) → n ≡ length named → text ≡ over 0 named zeros
    → n ≡ length (take n text)
busy-taken named zeros text n e f = e ∙ sym (ap length (taken_is named zeros text n e f))

-- ---- the answer

module _ (pairs : Pairs) (area : List ℕ) where
  abbrev Answers : Wrote → List ℕ → Type 0
  Answers r after =
      (r ≡ wrote_of (busy_answer (length area) pairs) (busy_bytes (pairs_in pairs)))
      × (after ≡ area_of (busy_answer (length area) pairs) (busy_bytes (pairs_in pairs)) area)

  pub busy-wrong : can_write pairs ≡ false → Answers (record { answer = 6; written = 0 }) area
  unfolding busy_answer wrote_of area_of
  busy-wrong h = (rw h, rw h)

  -- the reply was written as a text is
  busy-whole : can_write pairs ≡ true → (text : List ℕ) (r : Wrote) (after : List ℕ) → text ≡ busy_bytes (pairs_in pairs)
      → Whole text area r after → Answers r after
  unfolding busy_answer text_answer
  busy-whole can text r after e h = (h.0 ∙ rw (can, e), h.1 ∙ rw (can, e))

  pub busy-alone : can_write pairs ≡ true → pairs.count ≡ 0 → (r : Wrote) (after : List ℕ)
      → Whole (codes "GNUTELLA/0.6 503 Busy\r\n\r\n") area r after → Answers r after
  unfolding busy_bytes try_line
  busy-alone can z r after h =
      busy-whole can (codes "GNUTELLA/0.6 503 Busy\r\n\r\n") r after
      (sym (ap (λ n. busy_bytes (take n pairs.pairs)) z)) h

  pub busy-some : can_write pairs ≡ true → length pairs.pairs ≡ 32 → (pairs.count ≡ 0 → ⊥)
      → (n : ℕ) (text zeros : List ℕ) (r : Wrote) (after : List ℕ)
      → n ≡ length (named_bytes (pairs_in pairs)) → text ≡ over 0 (named_bytes (pairs_in pairs)) zeros
      → Whole (take n text) area r after → Answers r after
  busy-some can k some n text zeros r after e f h =
      let named = busy-named (pairs_in pairs) (λ z. some (omega (arith, length-take pairs.count pairs.pairs))) in
      busy-whole can (take n text) r after (taken_is (named_bytes (pairs_in pairs)) zeros text n e f ∙ sym named) h
