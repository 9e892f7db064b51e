-- What the call that writes hits leaves: a refusal every byte, and always an output as long as before, since a hit has
-- 4,119 bytes at most.
use Prim.Native.Nat.{ℕ, ◌+◌, ◌≤◌}
use mathlib.Core.Path.{◌≡◌, refl, ◌∙◌}
use mathlib.Core.Bool.{cond}
use mathlib.Core.List.{List}
use native.Mathlib.Omega.{arith}
use lib.Dec.{eqb}
use lib.ListN.{length, length-append, length-take}
use borrow.Author.Tests.{ne_eqb}
use Rattle.laws.specs.Parts.{over}
use Rattle.laws.proofs.Fronts.{front-refused, front_long}
use Rattle.wire.specs.Header.{hit_type, number_of}
use Rattle.wire.proofs.HeaderLaws.{message-length}
use Rattle.hits.specs.declared.writing.Responder.{Responder}
use Rattle.hits.specs.Results.{HitResult, results_bytes}
use Rattle.hits.specs.Writing.{head_bytes, hit_payload}
use Rattle.hits.specs.Words.{Typed}
use Rattle.answering.specs.Writing.{hit_ttl, asked_text, chosen, hit_for, hits_answer, writing, writing_out}
use Rattle.answering.specs.Words.{HitsLeave}
use Rattle.answering.proofs.Chosen.{chosen-fits}
use Rattle.answering.proofs.Answers.{done_iff}

-- ---- how long a hit is

pub payload-long : (from : Responder) (rs : List HitResult) → Typed from
    → length (hit_payload from rs) ≡ 27 + length (results_bytes rs)
unfolding head_bytes hit_payload
payload-long from rs t = simp length-append (omega (arith, t.address, t.mark))

module _ (limit : ℕ) (q a sizes : List ℕ) (from : Responder) (out : List ℕ) where
  abbrev pub answer_of : ℕ
  answer_of = hits_answer limit q a (length sizes) (length out)

  abbrev pub hit_of : List ℕ
  hit_of = hit_for q from (chosen (asked_text q) a sizes)

  abbrev pub after_of : List ℕ
  after_of = writing_out limit q a sizes from out

  pub after_is : after_of ≡ cond (eqb answer_of 0) (over 0 hit_of out) out
  unfolding writing_out
  after_is = refl

  -- a query that is answered has a whole number
  pub number-long : answer_of ≡ 0 → length (number_of q) ≡ 16
  number-long e =
      let w = ((done_iff limit q a (length sizes) (length out)).0 e).0.whole.whole in
      length-take 16 q ∙ omega arith

  module _ (t : Typed from) where
    pub hit-long : answer_of ≡ 0 → length hit_of ≡ 50 + length (results_bytes (chosen (asked_text q) a sizes))
    unfolding hit_for
    hit-long e =
        let rs : List HitResult = chosen (asked_text q) a sizes in
        omega (
          arith,
          message-length (number_of q) hit_type (hit_ttl q) 0 (hit_payload from rs) (number-long e),
          payload-long from rs t,
        )

    fits : answer_of ≡ 0 → length hit_of ≤ length out
    fits e =
        omega (
          arith,
          hit-long e,
          (chosen-fits (asked_text q) a sizes).fits,
          ((done_iff limit q a (length sizes) (length out)).0 e).0.lent.room,
        )

pub hits-leave : HitsLeave
unfolding writing
hits-leave limit q a sizes from out t =
    let answer : ℕ = answer_of limit q a sizes from out in
    let hit : List ℕ = hit_of limit q a sizes from out in
    let after : List ℕ = after_of limit q a sizes from out in
    let is = after_is limit q a sizes from out in
    record {
      stays = front-refused answer (length hit) hit out after refl is;
      none = λ n. (rw (ne_eqb answer 0 n), rw (ne_eqb answer 0 n));
      long = front_long answer (length hit) hit out after refl is (fits limit q a sizes from out t);
    }
