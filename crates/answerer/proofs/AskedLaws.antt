-- The query's refusals past its extent and its type, what is known of a query that is not refused, and its text.
use Prim.Native.Nat.{ℕ, ◌+◌, ◌-◌, ◌≤◌, ◌<◌}
use mathlib.Core.Path.{◌≡◌, refl, sym, ap, ◌∙◌}
use mathlib.Core.Bool.{true, false, cond, not, ◌||◌}
use mathlib.Core.List.{List, ◌∷◌}
use native.Mathlib.Omega.{arith}
use lib.Dec.{eqb, leb, ltb}
use lib.ListN.{length, take, drop, length-take}
use borrow.Author.Tests.{ltb-false, leb-false, eq-eqb, not-false}
use Rattle.laws.specs.Tests.{first_of}
use Rattle.laws.proofs.Refusals.{NoRefusal, first_append, or_snd}
use Rattle.wire.specs.declared.Header.{Header}
use Rattle.wire.specs.Header.{query_type, header_in, kind_of, ttl_of, hops_of, size_of, payload_of}
use Rattle.wire.proofs.HeaderLaws.{payload-part}
use Rattle.forwarding.specs.declared.texts.Text.{Text}
use Rattle.forwarding.specs.Texts.{text_of}
use Rattle.forwarding.proofs.TextLaws.{text-part, text-within}
use Rattle.protocol.specs.declared.Lookup.{Lookup}
use Rattle.protocol.specs.Queries.{text_in, has_text, query_before, query_rules}
use Rattle.protocol.specs.Calls.{extent_rules}
use Rattle.answering.specs.Writing.{asked_rules, asked_text}

-- a number of which nothing is known
abbrev unknown : Lookup
unknown = record { found = false; after = 0; asker = 0; hits = 0 }

module _ (limit : ℕ) (q : List ℕ) where
  abbrev early : ℕ
  early = first_of (extent_rules (length q) (size_of q))

  abbrev answer : ℕ
  answer = first_of (asked_rules limit q)

  answer-is : answer
      ≡ cond (eqb early 0) (first_of ((not (eqb (kind_of q) query_type), 7)
      ∷ query_before limit (header_in q) (has_text (payload_of q)))) early
  answer-is =
      first_append (extent_rules (length q) (size_of q))
      ((not (eqb (kind_of q) query_type), 7) ∷ query_before limit (header_in q) (has_text (payload_of q)))
      refl

  module _ (h : Header) (eh : h ≡ header_in q) (r : ℕ) (er : r ≡ first_of (extent_rules (length q) h.size)) where
    first : r ≡ early
    first = er ∙ ap (λ (x : Header). first_of (extent_rules (length q) x.size)) eh

    module _ (z : r ≡ 0) where
      none : early ≡ 0
      none = sym first ∙ z

      -- a number that was not looked up changes nothing
      pub query_refuses : h.kind ≡ query_type → (t : Text) → t ≡ text_of (take (23 + h.size - 23) (drop 23 q))
          → (n : ℕ) → n ≡ first_of (query_rules limit h t.ended unknown) → n ≡ answer
      query_refuses k t et n e =
          let kind : kind_of q ≡ query_type = sym (ap (λ (x : Header). x.kind) eh) ∙ k in
          let ended : t.ended ≡ has_text (payload_of q) =
          ap (λ (x : Text). x.ended) et ∙ ap has_text (payload-part q h.size (ap (λ (x : Header). x.size) eh)) in
          e
          ∙ ap (λ (x : Header). first_of (query_before limit x t.ended)) eh
          ∙ ap (λ b. first_of (query_before limit (header_in q) b)) ended
          ∙ sym (answer-is ∙ rw (none, eq-eqb (kind_of q) query_type kind))

-- what is known of a query that is not refused
pub record Asked (limit : ℕ) (q : List ℕ) : Type 0 where
  pub size : size_of q ≤ 4096
  pub whole : 23 + size_of q ≤ length q
  pub text : has_text (payload_of q) ≡ true
  pub hops : hops_of q < limit

pub asked : (limit : ℕ) (q : List ℕ) → NoRefusal (asked_rules limit q) → Asked limit q
asked limit q passed =
    record {
      size = ltb-false 4096 (size_of q) passed.1.0;
      whole = ltb-false (length q) (23 + size_of q) passed.1.1.0;
      text = not-false (has_text (payload_of q)) passed.1.1.1.1.0;
      hops = leb-false limit (hops_of q)
          (or_snd (ltb 15 (ttl_of q)) (leb limit (hops_of q))
          (or_snd (eqb (ttl_of q) 0) (ltb 15 (ttl_of q) || leb limit (hops_of q)) passed.1.1.1.1.1.0));
    }

-- the text, as the code cuts it out of the message
module _ (q : List ℕ) (h : Header) (eh : h ≡ header_in q) (t : Text)
    (et : t ≡ text_of (take (23 + h.size - 23) (drop 23 q))) where
  part : take (23 + h.size - 23) (drop 23 q) ≡ payload_of q
  part = payload-part q h.size (ap (λ (x : Header). x.size) eh)

  pub text-cut : take (2 + t.length - 2) (drop 2 (take (23 + h.size - 23) (drop 23 q))) ≡ asked_text q
  text-cut = text-part (take (23 + h.size - 23) (drop 23 q)) t.length (ap (λ (x : Text). x.length) et)
      ∙ ap text_in part

  pub text-inside : has_text (payload_of q) ≡ true → 2 + t.length ≤ length (take (23 + h.size - 23) (drop 23 q))
  text-inside e =
      text-within (take (23 + h.size - 23) (drop 23 q)) t.length (ap (λ (x : Text). x.length) et)
      (ap has_text part ∙ e)

-- a text that is cut out of a whole query has no more bytes than a payload
pub text-short : (limit : ℕ) (q : List ℕ) → Asked limit q → length (asked_text q) ≤ 4096
text-short limit q k =
    let inside = text-within (payload_of q) (length (asked_text q)) refl k.text in
    omega (arith, k.size, length-take (size_of q) (drop 23 q))
