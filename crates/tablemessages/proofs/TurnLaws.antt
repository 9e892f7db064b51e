-- The loop over a run's messages: where it stands, a turn of it, and its end.
use Prim.Native.Nat.{ℕ, suc, ◌+◌, ◌-◌, ◌≤◌, ◌<◌, min}
use mathlib.Core.Path.{◌≡◌, refl, sym, ap, ap₂, ◌∙◌}
use mathlib.Core.List.{List, [], ◌∷◌, ◌++◌}
use native.Mathlib.Numerals.{add-one}
use native.Mathlib.Omega.{arith}
use lib.ListN.{length, take, drop, length-append, length-take, length-drop}
use lib.Seq.{take_all, drop-drop, length-take-le}
use borrow.Rule.Slice.PartMut.{put_mid}
use Rattle.laws.specs.Parts.{over}
use Rattle.laws.proofs.Over.{over-length}
use Rattle.laws.proofs.Writing.{written_next, lent-part, take_min, drop_min, take-through, drop-through}
use Rattle.wire.proofs.HeaderLaws.{message-length}
use Rattle.tablemessages.specs.declared.Plan.{Plan}
use Rattle.tablemessages.specs.Writer.{chunks, parts_of, run_from, joined, patch_payload}
use Rattle.tablemessages.specs.Steps.{bits_by, patch_with, left_of}
use Rattle.tablemessages.proofs.RunLaws.{parts_next}

-- the next message, and what is left after it
pub left-next : (number : List ℕ) (p : Plan) (place : ℕ) (d : List ℕ) → 1 ≤ p.size → 0 < length d
    → left_of number p place d ≡ patch_with number p place (take p.size d) ++ left_of number p
    (place + 1) (drop p.size d)
unfolding left_of patch_with run_from joined
left-next number p place d some h =
    ap (λ ps. joined (run_from number place p.count (bits_by p) ps)) (parts_next p.size some d h)
    ∙ ap (λ k. patch_with number p place (take p.size d) ++ joined (run_from number k p.count (bits_by p)
    (parts_of p.size (drop p.size d))))
    (sym (add-one place))

pub left-none : (number : List ℕ) (p : Plan) (place : ℕ) (d : List ℕ) → length d ≤ 0 → left_of number p place d ≡ []
unfolding left_of chunks run_from joined
left-none number p place [] h = refl
left-none number p place (b ∷ bs) h = absurd (omega arith)

pub patch-length : (number : List ℕ) (p : Plan) (place : ℕ) (d : List ℕ) → length number ≡ 16
    → length (patch_with number p place d) ≡ 28 + length d
unfolding patch_with
patch-length number p place d h = message-length number 0x30 1 0 (patch_payload place p.count (bits_by p) d) h
    ∙ omega arith

-- before a message: `at` bytes of the run are written, from the data's byte `from` on there is more to write
pub record At (number : List ℕ) (p : Plan) (d start out : List ℕ) (place from at : ℕ) : Type 0 where
  pub within : from ≤ length d
  pub here : at ≤ length (left_of number p 1 d)
  pub left : drop at (left_of number p 1 d) ≡ left_of number p place (drop from d)
  pub next : place + length (parts_of p.size (drop from d)) ≡ p.count + 1
  pub bytes : out ≡ over 0 (take at (left_of number p 1 d)) start
  pub long : length out ≡ length start

pub begins : (number : List ℕ) (p : Plan) (d start : List ℕ) → length (parts_of p.size d) ≡ p.count
    → At number p d start start 1 0 0
begins number p d start h =
    record { within = omega arith; here = omega arith; left = refl; next = omega arith; bytes = refl; long = refl }

module _ (number : List ℕ) (sixteen : length number ≡ 16) (p : Plan) (some : 1 ≤ p.size) (d start out : List ℕ)
    (place from at : ℕ)
    (v : At number p d start out place from at) where
  -- no data is left
  pub ends : length d ≤ from → out ≡ over 0 (left_of number p 1 d) start
  ends h =
      let e : length (drop at (left_of number p 1 d)) ≡ 0 =
      ap length (v.left ∙ left-none number p place (drop from d) (rw length-drop (omega arith))) in
      v.bytes ∙ ap (λ l. over 0 l start)
      (take_all at (left_of number p 1 d) (omega (arith, length-drop at (left_of number p 1 d))))

  module _ (n : ℕ) (more : from < length d) (e : n ≡ min p.size (length d - from)) where
    abbrev message-here : List ℕ
    message-here = patch_with number p place (take n (drop from d))

    least : n ≡ min p.size (length (drop from d))
    least = e ∙ ap (min p.size) (sym (length-drop from d))

    rest : drop p.size (drop from d) ≡ drop (from + n) d
    rest = sym (drop_min p.size n (drop from d) least) ∙ drop-drop n from d

    there : 0 < length (drop from d)
    there = rw length-drop (omega arith)

    now-left : drop at (left_of number p 1 d) ≡ message-here ++ left_of number p (place + 1) (drop (from + n) d)
    now-left =
        v.left
        ∙ left-next number p place (drop from d) some there
        ∙ ap₂ (λ x y. patch_with number p place x ++ left_of number p (place + 1) y)
        (sym (take_min p.size n (drop from d) least)) rest

    here-length : length message-here ≡ 28 + n
    here-length = patch-length number p place (take n (drop from d)) sixteen
        ∙ ap (λ x. 28 + x) (length-take n (drop from d) ∙ omega (arith, least))

    -- the message's data, place and bytes are in range
    pub turn_data : from + n ≤ length d
    turn_data = omega arith

    turn-count : place + 1 + length (parts_of p.size (drop (from + n) d)) ≡ p.count + 1
    turn-count =
        let f : length (parts_of p.size (drop from d)) ≡ suc (length (parts_of p.size (drop (from + n) d))) =
        ap length (parts_next p.size some (drop from d) there) ∙ ap (λ x. suc (length (parts_of p.size x))) rest in
        omega (arith, v.next)

    pub turn-place : place ≤ p.count
    turn-place = omega (arith, turn-count)

    pub turn-room : at + 28 + n ≤ length (left_of number p 1 d)
    turn-room =
        let f : length (drop at (left_of number p 1 d)) ≡ length message-here + length (left_of number p (place + 1)
        (drop (from + n) d)) =
        ap length now-left ∙ length-append message-here (left_of number p (place + 1) (drop (from + n) d)) in
        omega (arith, length-drop at (left_of number p 1 d), here-length, v.here)

    -- the message written
    pub turn : (k : ℕ) (part : List ℕ) → k ≡ 28 + n → at + k ≤ length out → part ≡ over 0 message-here
        (take k (drop at out))
        → At number p d start (put_mid at k out part) (place + 1) (from + n) (at + 28 + n)
    turn k part f r g =
        let s : at + 28 + n ≡ at + length message-here = omega (arith, here-length) in
        let w : put_mid at k out part ≡ over at message-here out = lent-part at k message-here out part
        (omega (arith, here-length)) r g in
        record {
          within = turn_data;
          here = turn-room;
          left = ap (λ x. drop x (left_of number p 1 d)) s ∙ drop-through at (left_of number p 1 d)
              message-here _ now-left;
          next = turn-count;
          bytes =
              w
              ∙ ap (over at message-here) v.bytes
              ∙ written_next at (take at (left_of number p 1 d)) message-here start
              (length-take-le at (left_of number p 1 d) v.here)
              ∙ ap (λ x. over 0 x start)
              (sym (ap (λ x. take x (left_of number p 1 d)) s ∙ take-through at (left_of number p 1 d)
              message-here _ now-left));
          long = ap length w ∙ over-length at message-here out (omega (arith, here-length)) ∙ v.long;
        }
