-- The writer's answer, and the length of all its messages.
use Prim.Native.Nat.{ℕ, ◌+◌, ◌*◌, ◌≤◌, ◌<◌}
use mathlib.Core.Path.{◌≡◌, refl, sym, ap, ap₂, ◌∙◌}
use mathlib.Core.Bool.{Bool, true, false, cond, not, ◌&&◌}
use mathlib.Core.List.{List, []}
use Rattle.std.specs.Prelude.{Result, Ok, Err}
use native.Mathlib.Omega.{arith}
use lib.Dec.{eqb, leb}
use lib.ListN.{length, length-append}
use borrow.Author.Tests.{lt-ltb, le-ltb}
use Rattle.answer.specs.declared.Refusal.{Refusal}
use Rattle.laws.specs.Tests.{first_of}
use Rattle.laws.specs.Parts.{over}
use Rattle.wire.proofs.HeaderLaws.{message-length}
use Rattle.tablemessages.specs.Writer.{base_of, bits_for, data_of, parts_of, run_from, update, reset_payload}
use Rattle.tablemessages.specs.Writer.{messages_of, joined, good_table, run_rules}
use Rattle.tablemessages.specs.Writer.{writer_answer, written_as, writer_bytes, writer_result, writer_out}
use Rattle.tablemessages.specs.Steps.{may_write, reset_length}
use Rattle.tablemessages.proofs.RunLaws.{parts-joined, run_length}

fourteen : (a b c : Bool) → ◌≡◌ {A = ℕ} (cond a 14 (cond b 14 (cond c 14 14))) 14
fourteen true b c = refl
fourteen false true c = refl
fourteen false false true = refl
fourteen false false false = refl

-- the four refusals that the tables and the data size decide, whichever comes first, against one test of all
first-four : (g h o l i s t : Bool) (x : ℕ)
    → cond (not g) 14 (cond (h && not o) 14 (cond (h && not (l && i)) 14 (cond (not (s && t)) 14 x)))
    ≡ cond (s && (t && cond h (l && (i && (o && g))) g)) x 14
first-four g h o l i false t x = fourteen (not g) (h && not o) (h && not (l && i))
first-four g h o l i true false x = fourteen (not g) (h && not o) (h && not (l && i))
first-four true false o l i true true x = refl
first-four false false o l i true true x = refl
first-four g true o false i true true x = fourteen (not g) (not o) true
first-four g true o true false true true x = fourteen (not g) (not o) true
first-four g true false true true true true x = fourteen (not g) true true
first-four true true true true true true true x = refl
first-four false true true true true true true x = refl

-- what the answer is, by the tests in order
module _ (number : List ℕ) (had : Bool) (old : List ℕ) (old_infinity : ℕ) (new : List ℕ) (infinity size : ℕ)
    (out : List ℕ) where
  answer-by : writer_answer number had old old_infinity new infinity size (length out)
      ≡ cond (may_write had old old_infinity new infinity size)
      (first_of
      (run_rules (length (parts_of size (data_of new (base_of had old new infinity))))
      (length (joined (messages_of number had old new infinity size)))
      (length out)))
      14
  unfolding writer_answer may_write
  answer-by =
      first-four (good_table new infinity) had (good_table old old_infinity) (eqb (length old) (length new))
      (eqb old_infinity infinity) (leb 1 size)
      (leb size 4091) _

  pub bad-given : may_write had old old_infinity new infinity size ≡ false → writer_answer number had old old_infinity new
      infinity size (length out) ≡ 14
  bad-given h = answer-by ∙ rw h

  module _ (h : may_write had old old_infinity new infinity size ≡ true) where
    pub too_many : 255 < length (parts_of size (data_of new (base_of had old new infinity)))
        → writer_answer number had old old_infinity new infinity size (length out) ≡ 14
    too_many k = answer-by ∙ rw (h, lt-ltb _ _ k)

    pub too_short : length (parts_of size (data_of new (base_of had old new infinity))) ≤ 255
        → length out < length (joined (messages_of number had old new infinity size))
        → writer_answer number had old old_infinity new infinity size (length out) ≡ 2
    too_short k l = answer-by ∙ rw (h, le-ltb _ _ k, lt-ltb _ _ l)

    pub all-well : length (parts_of size (data_of new (base_of had old new infinity))) ≤ 255
        → length (joined (messages_of number had old new infinity size)) ≤ length out
        → writer_answer number had old old_infinity new infinity size (length out) ≡ 0
    all-well k l = answer-by ∙ rw (h, le-ltb _ _ k, le-ltb _ _ l)

  -- a refusal writes nothing
  pub refused : (n : ℕ) → writer_answer number had old old_infinity new infinity size (length out) ≡ n → eqb n 0 ≡ false
      → (written_as n 0 ≡ writer_result number had old old_infinity new infinity size out)
      × (out ≡ writer_out number had old old_infinity new infinity size out)
  unfolding writer_result writer_out writer_bytes
  refused n e f = (ap₂ written_as (sym e) (sym (ap length none)), sym (ap (λ b. over 0 b out) none))
    where
      none : writer_bytes number had old old_infinity new infinity size out ≡ []
      none =
          ap (λ a. cond (eqb a 0) (joined (messages_of number had old new infinity size)) []) e
          ∙ ap (λ t. cond t (joined (messages_of number had old new infinity size)) []) f

  -- no refusal: all the messages
  pub accepted : (w : ℕ) (exit : List ℕ) → writer_answer number had old old_infinity new infinity size (length out) ≡ 0
      → w ≡ length (joined (messages_of number had old new infinity size))
      → exit ≡ over 0 (joined (messages_of number had old new infinity size)) out
      → (written_as 0 w ≡ writer_result number had old old_infinity new infinity size out)
      × (exit ≡ writer_out number had old old_infinity new infinity size out)
  unfolding writer_result writer_out writer_bytes
  accepted w exit e f g = (ap₂ written_as (sym e) (f ∙ sym (ap length whole)), g ∙ sym (ap (λ b. over 0 b out) whole))
    where
      whole : writer_bytes number had old old_infinity new infinity size out
          ≡ joined (messages_of number had old new infinity size)
      whole = ap (λ a. cond (eqb a 0) (joined (messages_of number had old new infinity size)) []) e

-- a RESET takes 29 bytes at most
pub reset-few : (had : Bool) → reset_length had ≤ 29
reset-few true = omega arith
reset-few false = omega arith

-- a test that is passed held, and one that refuses did not
pub kept : (b : Bool) (r : Refusal) (u : Unit {0}) → ◌≡◌ {A = Result (Unit {0}) Refusal} (Ok u) (cond b (Ok tt) (Err r))
    → b ≡ true
kept true r u e = refl
kept false r u e = cc

pub lost : (b : Bool) (r f : Refusal) → ◌≡◌ {A = Result (Unit {0}) Refusal} (Err f) (cond b (Ok tt) (Err r))
    → (b ≡ false) × (f ≡ r)
lost true r f e = cc
lost false r f e = (refl, cc)

-- the length of all the messages
pub bytes-length : (had : Bool) (number old new : List ℕ) (infinity size : ℕ) → length number ≡ 16 → 1 ≤ size
    → length (joined (messages_of number had old new infinity size))
    ≡ reset_length had
    + (28 * length (parts_of size (data_of new (base_of had old new infinity))) + length
    (data_of new (base_of had old new infinity)))
unfolding messages_of joined
bytes-length true number old new infinity size h k =
    let d = data_of new old in
    omega (
      arith,
      run_length number (length (parts_of size d)) (bits_for new old) 1 (parts_of size d) h,
      ap length
          (parts-joined size k (length d) d (omega arith)),
    )
bytes-length false number old new infinity size h k =
    let b = base_of false old new infinity in
    let d = data_of new b in
    let run = run_from number 1 (length (parts_of size d)) (bits_for new b) (parts_of size d) in
    length-append (update number (reset_payload (length new) infinity)) (joined run)
    ∙ omega (
      arith,
      message-length number 0x30 1 0 (reset_payload (length new) infinity) h,
      run_length number (length (parts_of size d)) (bits_for new b) 1 (parts_of size d) h,
      ap length (parts-joined size k (length d) d (omega arith)),
    )
