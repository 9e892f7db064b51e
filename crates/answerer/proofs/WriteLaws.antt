-- The call's refusals, one law for each way out, and the hit's parts, which make the whole.
use Prim.Native.Nat.{ℕ, ◌+◌, ◌-◌, ◌≤◌, ◌<◌}
use mathlib.Core.Path.{◌≡◌, refl, sym, ap, ap₂, ◌∙◌}
use mathlib.Core.Bool.{Bool, true, false, cond, not, ◌||◌}
use mathlib.Core.List.{List, [], ◌∷◌, ◌++◌}
use native.Mathlib.Omega.{arith}
use lib.Dec.{eqb, ltb}
use lib.ListN.{length, take, drop, length-append, length-take, length-drop, take-append-drop}
use lib.Seq.{length-take-le}
use borrow.Rule.Slice.PartMut.{put_mid}
use borrow.Author.Tests.{lt-ltb, le-ltb, ltb-false, ne_eqb, not-false}
use Rattle.laws.specs.Tests.{first_of, any}
use Rattle.laws.specs.Parts.{over, copied}
use Rattle.laws.proofs.Over.{over-length}
use Rattle.laws.proofs.Writing.{lent-part, copied-part}
use Rattle.laws.proofs.Refusals.{first_append, no-refusal, or_fst, or_snd}
use Rattle.wire.specs.declared.Header.{Header}
use Rattle.wire.specs.Header.{largest_message, hit_type, header_in, number_of, hops_of, header, message, with_header}
use Rattle.wire.proofs.HeaderLaws.{header-room, header-length, message-length}
use Rattle.namearea.specs.Area.{count_in, names_in}
use Rattle.namearea.specs.Good.{good_list}
use Rattle.namearea.specs.Calls.{list_rules, list_answer}
use Rattle.hits.specs.declared.writing.Responder.{Responder}
use Rattle.hits.specs.Results.{HitResult, results_bytes}
use Rattle.hits.specs.Writing.{head_bytes, hit_payload, head_into}
use Rattle.hits.proofs.WriteLaws.{head-long, head-room}
use Rattle.matching.specs.Matching.{matches, matching_places}
use Rattle.answering.specs.declared.HitsWritten.{HitsWritten}
use Rattle.answering.specs.declared.WrittenHit.{WrittenHit}
use Rattle.answering.specs.Writing.{
  chosen,
  asked_text,
  hit_for,
  asked_rules,
  early_rules,
  hits_answer,
  writing,
  writing_out,
}
use Rattle.answerer.specs.Filling.{filling_of, Laid}
use Rattle.answerer.proofs.AskedLaws.{Asked, asked, text-short}
use Rattle.answerer.proofs.ChosenLaws.{none-chosen, some-chosen, found-chosen}
use Rattle.laws.proofs.Overlay.{over-before, over-after}

-- ---- the refusals before the names are searched

module _ (limit : ℕ) (q a : List ℕ) (sizes out : ℕ) where
  abbrev early : ℕ
  early = first_of (early_rules limit q a sizes out)

  abbrev lent_rules : List (Bool × ℕ)
  lent_rules = (ltb sizes (count_in a) || ltb out largest_message, 2) ∷ asked_rules limit q

  early-is : early ≡ cond (eqb (list_answer a) 0) (first_of lent_rules) (list_answer a)
  unfolding list_answer
  early-is = first_append (list_rules a) lent_rules refl

  pub list_refuses : (r : ℕ) → r ≡ list_answer a → (r ≡ 0 → ⊥) → r ≡ early
  list_refuses r e n = sym (early-is ∙ rw (← e, ne_eqb r 0 n))

  module _ (e : 0 ≡ list_answer a) where
    pub few_refuse : sizes < count_in a → 2 ≡ early
    few_refuse h = sym (early-is ∙ rw (← e, lt-ltb sizes (count_in a) h))

    module _ (h : count_in a ≤ sizes) where
      pub short_refuses : out < 4119 → 2 ≡ early
      short_refuses g = sym (early-is ∙ rw (← e, le-ltb sizes (count_in a) h, lt-ltb out 4119 g))

      pub query-answers : 4119 ≤ out → (r : ℕ) → r ≡ first_of (asked_rules limit q) → r ≡ early
      query-answers g r f = f ∙ sym (early-is ∙ rw (← e, le-ltb sizes (count_in a) h, le-ltb out 4119 g))

-- what is known past them
pub record Lent (limit : ℕ) (q a : List ℕ) (sizes out : ℕ) : Type 0 where
  pub long : 4100 ≤ length a
  pub good : good_list a ≡ true
  pub enough : count_in a ≤ sizes
  pub room : 4119 ≤ out
  pub asked : Asked limit q

pub lent : (limit : ℕ) (q a : List ℕ) (sizes out : ℕ) → 0 ≡ first_of (early_rules limit q a sizes out)
    → Lent limit q a sizes out
lent limit q a sizes out e =
    let no = no-refusal (early_rules limit q a sizes out) refl (sym e) in
    let both = no.1.1.0 in
    record {
      long = ltb-false (length a) 4100 no.0;
      good = not-false (good_list a) no.1.0;
      enough = ltb-false sizes (count_in a) (or_fst (ltb sizes (count_in a)) (ltb out 4119) both);
      room = ltb-false out 4119 (or_snd (ltb sizes (count_in a)) (ltb out 4119) both);
      asked = asked limit q no.1.1.1;
    }

-- ---- the parts of a hit

-- what is told is the sum of its parts
pub told-sum : (results size : ℕ) → ◌≡◌ {A = WrittenHit}
    (record { results = results; size = 23 + (11 + size + 16) })
    (record { results = results; size = 50 + size })
told-sum results size =
    let e : 23 + (11 + size + 16) ≡ 50 + size = omega arith in
    ap (λ n. record { results = results; size = n }) e

-- the mark, what tells of the results, and the header, put around the results
module _ (number : List ℕ) (ttl results size : ℕ) (from : Responder) (out : List ℕ)
    (address : length from.address ≡ 4) (mark : length from.mark ≡ 16) (small : size ≤ 4069)
    (room : 4119 ≤ length out) where
  pub around : (marked one headed two after : List ℕ)
      → marked ≡ copied from.mark (take (length out - (34 + size)) (drop (34 + size) out))
      → one ≡ put_mid (34 + size) (length out - (34 + size)) out marked
      → headed ≡ head_into results from (take (length one - 23) (drop 23 one))
      → two ≡ put_mid 23 (length one - 23) one headed
      → after ≡ with_header number hit_type ttl 0 (11 + size + 16) two
      → after ≡ over 0 (header number hit_type ttl 0 (27 + size))
      (over 23 (head_bytes results from) (over (34 + size) from.mark out))
  around marked one headed two after e₁ f₁ e₂ f₂ e₃ =
      let eleven = head-long results from address in
      let is_one : one ≡ over (34 + size) from.mark out =
      f₁ ∙ copied-part (34 + size) (length out - (34 + size)) from.mark out marked (omega arith) (omega arith) e₁ in
      let long-one : length one ≡ length out =
      ap length is_one ∙ over-length (34 + size) from.mark out (omega arith) in
      let is-two : two ≡ over 23 (head_bytes results from) one =
      f₂ ∙ lent-part 23 (length one - 23) (head_bytes results from) one headed (omega arith) (omega arith)
      (e₂ ∙ head-room results from (take (length one - 23) (drop 23 one))
      (simp (length-take, length-drop) (omega arith))) in
      let long-two : length two ≡ length out =
      ap length is-two ∙ over-length 23 (head_bytes results from) one (omega arith) ∙ long-one in
      let k : 11 + size + 16 ≡ 27 + size = omega arith in
      e₃
      ∙ header-room number hit_type ttl 0 (11 + size + 16) two (omega arith)
      ∙ ap₂ (λ n l. over 0 (header number hit_type ttl 0 n) l) k (is-two ∙ ap (over 23 (head_bytes results from)) is_one)

-- together with the results they are the hit
module _ (number : List ℕ) (ttl : ℕ) (from : Responder) (rs : List HitResult) (size : ℕ) (long : length number ≡ 16)
    (address : length from.address ≡ 4) (mark : length from.mark ≡ 16)
    (is : size ≡ length (results_bytes rs)) where
  payload-long : length (hit_payload from rs) ≡ 27 + size
  unfolding hit_payload
  payload-long = simp length-append (omega (arith, head-long (length rs) from address))

  pub hit-long : length (message number hit_type ttl 0 (hit_payload from rs)) ≡ 50 + size
  hit-long =
      message-length number hit_type ttl 0 (hit_payload from rs) long ∙ ap (λ n. 23 + n) payload-long ∙ omega arith

  pub hit-whole : (out : List ℕ) → 50 + size ≤ length out
      → over 0 (header number hit_type ttl 0 (27 + size))
      (over 23 (head_bytes (length rs) from) (over (34 + size) from.mark (over 34 (results_bytes rs) out)))
      ≡ over 0 (message number hit_type ttl 0 (hit_payload from rs)) out
  unfolding message hit_payload
  hit-whole out room =
      let told = head_bytes (length rs) from in
      let eleven : 34 ≡ 23 + length told = omega (arith, head-long (length rs) from address) in
      let head = header number hit_type ttl 0 (27 + size) in
      let begins : 23 ≡ 0 + length head =
      omega (arith, header-length number hit_type ttl 0 [] long (27 + size)) in
      let behind : over (34 + size) from.mark (over 34 (results_bytes rs) out)
      ≡ over 34 (results_bytes rs ++ from.mark) out =
      ap (λ n. over (34 + n) from.mark (over 34 (results_bytes rs) out)) is
      ∙ over-after 34 (results_bytes rs) from.mark out (omega arith) in
      let payload : over 23 told (over 34 (results_bytes rs ++ from.mark) out)
      ≡ over 23 (told ++ (results_bytes rs ++ from.mark)) out =
      ap (λ n. over 23 told (over n (results_bytes rs ++ from.mark) out)) eleven
      ∙ over-before 23 told (results_bytes rs ++ from.mark) out (omega arith) in
      ap (λ l. over 0 head (over 23 told l)) behind
      ∙ ap (over 0 head) payload
      ∙ ap (λ n. over 0 head (over n (told ++ (results_bytes rs ++ from.mark)) out)) begins
      ∙ over-before 0 head (told ++ (results_bytes rs ++ from.mark)) out (omega arith)
      ∙ ap (λ n. over 0 (header number hit_type ttl 0 n ++ (told ++ (results_bytes rs ++ from.mark))) out)
      (sym payload-long)

-- ---- the call

module _ (limit : ℕ) (q a sizes : List ℕ) (from : Responder) (out : List ℕ) where
  abbrev first : ℕ
  first = first_of (early_rules limit q a (length sizes) (length out))

  abbrev number : ℕ
  number = hits_answer limit q a (length sizes) (length out)

  -- what the call gives
  abbrev pub Gives : HitsWritten → List ℕ → Type 0
  Gives told after =
      (told ≡ writing limit q a sizes from (length out)) × (after ≡ writing_out limit q a sizes from out)

  number_is : number ≡ cond (eqb first 0) (cond (not (any (matches (asked_text q)) (names_in a))) 10 0) first
  unfolding hits_answer
  number_is =
      first_append (early_rules limit q a (length sizes) (length out))
      ((not (any (matches (asked_text q)) (names_in a)), 10) ∷ [])
      refl

  -- what the results come to that are laid into their part, which comes back as `after`: few bytes; none, and a
  -- refusal; or some, and the hit, once the rest is put around them
  pub record Ways (results size : ℕ) (after : List ℕ) : Type 0 where
    pub small : size ≤ 4069
    pub none : results ≡ 0 → (told : HitsWritten) → told ≡ record { answer = 10; results = 0; written = 0 }
        → Gives told (put_mid 34 4069 out after)
    pub some : (results ≡ 0 → ⊥) → length from.address ≡ 4 → length from.mark ≡ 16
        → (told : HitsWritten) → told ≡ record { answer = 0; results = results; written = 50 + size }
        → (name : List ℕ) → name ≡ number_of q → (h : Header) → h ≡ header_in q → (last : List ℕ)
        → last ≡ over 0 (header name hit_type (h.hops + 1) 0 (27 + size))
        (over 23 (head_bytes results from) (over (34 + size) from.mark (put_mid 34 4069 out after)))
        → Gives told last

  refused-gives : (r : ℕ) → r ≡ number → (r ≡ 0 → ⊥) → (told : HitsWritten)
      → told ≡ record { answer = r; results = 0; written = 0 } → (after : List ℕ) → after ≡ out → Gives told after
  unfolding writing writing_out
  refused-gives r e n told et after ea = (et ∙ rw (← e, ne_eqb r 0 n), ea ∙ rw (← e, ne_eqb r 0 n))

  pub early_refuses : (r : ℕ) → r ≡ first → (r ≡ 0 → ⊥) → (told : HitsWritten)
      → told ≡ record { answer = r; results = 0; written = 0 } → Gives told out
  early_refuses r e n told et = refused-gives r (sym (number_is ∙ rw (← e, ne_eqb r 0 n))) n told et out refl

  module _ (e : 0 ≡ first) (text : List ℕ) (et : text ≡ asked_text q) (found : List Bool)
      (ef : found ≡ matching_places text a) (results size : ℕ) (after : List ℕ)
      (laid : Laid (filling_of found a sizes (length (take 4069 (drop 34 out)))) results size (take 4069 (drop 34 out))
      after) where
    abbrev known : Lent limit q a (length sizes) (length out)
    known = lent limit q a (length sizes) (length out) e

    abbrev rs : List HitResult
    rs = chosen (asked_text q) a sizes

    part-long : length (take 4069 (drop 34 out)) ≡ 4069
    part-long = simp (length-take, length-drop) (omega (arith, known.room))

    these : filling_of found a sizes (length (take 4069 (drop 34 out))) ≡ rs
    these =
        ap₂ (λ f n. filling_of f a sizes n) (ef ∙ ap (λ t. matching_places t a) et) part-long
        ∙ found-chosen (asked_text q) a sizes known.good (text-short limit q known.asked)

    counted : results ≡ length rs
    counted = laid.counted ∙ ap length these

    long : size ≡ length (results_bytes rs)
    long = laid.long ∙ ap (λ l. length (results_bytes l)) these

    small : size ≤ 4069
    small = omega (arith, laid.inside, part-long)

    -- the results stand in the output
    inside : put_mid 34 4069 out after ≡ over 34 (results_bytes rs) out
    inside =
        lent-part 34 4069 (results_bytes rs) out after (omega (arith, small, long)) (omega (arith, known.room))
        (laid.bytes ∙ ap (λ l. over 0 (results_bytes l) (take 4069 (drop 34 out))) these)

    none : (l : List HitResult) → length l ≡ 0 → over 34 (results_bytes l) out ≡ out
    unfolding results_bytes
    none [] z = take-append-drop 34 out
    none (r ∷ l) z = absurd (omega arith)

    -- none is written where no name matches
    none_written : results ≡ 0 → (told : HitsWritten) → told ≡ record { answer = 10; results = 0; written = 0 }
        → Gives told (put_mid 34 4069 out after)
    none_written z told w =
        let no : any (matches (asked_text q)) (names_in a) ≡ false =
        none-chosen (asked_text q) a sizes known.good (sym counted ∙ z) in
        refused-gives 10 (sym (number_is ∙ rw (← e, no))) (λ x. omega arith) told w (put_mid 34 4069 out after)
        (inside ∙ none rs (sym counted ∙ z))

    -- else the hit
    hit-written : (results ≡ 0 → ⊥) → length from.address ≡ 4 → length from.mark ≡ 16
        → (told : HitsWritten) → told ≡ record { answer = 0; results = results; written = 50 + size }
        → (name : List ℕ) → name ≡ number_of q → (h : Header) → h ≡ header_in q → (last : List ℕ)
        → last ≡ over 0 (header name hit_type (h.hops + 1) 0 (27 + size))
        (over 23 (head_bytes results from) (over (34 + size) from.mark (put_mid 34 4069 out after)))
        → Gives told last
    unfolding writing writing_out hit_for
    hit-written n address mark told w name en h eh last el =
        let some : any (matches (asked_text q)) (names_in a) ≡ true =
        some-chosen (asked_text q) a sizes known.good (λ z. n (counted ∙ z)) in
        let zero : number ≡ 0 = number_is ∙ rw (← e, some) in
        let sixteen : length (number_of q) ≡ 16 = length-take-le 16 q (omega (arith, known.asked.whole)) in
        let bytes : 50 + size ≡ length (hit_for q from rs) =
        sym (hit-long (number_of q) (hops_of q + 1) from rs size sixteen address mark long) in
        let whole : last ≡ over 0 (hit_for q from rs) out =
        el
        ∙ ap₂ (λ x (y : Header). over 0 (header x hit_type (y.hops + 1) 0 (27 + size))
        (over 23 (head_bytes results from) (over (34 + size) from.mark (put_mid 34 4069 out after)))) en eh
        ∙ ap₂ (λ m l. over 0 (header (number_of q) hit_type (hops_of q + 1) 0 (27 + size))
        (over 23 (head_bytes m from) (over (34 + size) from.mark l))) counted inside
        ∙ hit-whole (number_of q) (hops_of q + 1) from rs size sixteen address mark long out
        (omega (arith, small, known.room)) in (
          w ∙ ap₂ (λ m k. record { answer = 0; results = m; written = k }) counted bytes ∙ rw zero,
          whole ∙ rw zero,
        )

    pub found-ways : Ways results size after
    found-ways = record { small = small; none = none_written; some = hit-written }
