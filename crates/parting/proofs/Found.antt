-- A name is found by any of its keywords, proved: the table has 1 where a keyword of a name falls, and an entry 1
-- withholds no query, since a query is sent with a TTL of 1 or more.
-- Assumes nothing.
use Prim.Native.Nat.{ℕ, ◌-◌, ◌^◌, ◌≤◌, ◌<◌}
use native.Mathlib.Omega.{arith}
use mathlib.Core.Path.{◌≡◌, refl, ap, ◌∙◌}
use mathlib.Core.Bool.{true, false}
use mathlib.Core.Logic.{⊎_elim}
use mathlib.Core.List.{List}
use lib.Dec.{leb}
use lib.ListN.{length, get_or, take}
use borrow.Author.Tests.{leb-true}
use Rattle.laws.proofs.Refusals.{and_fst}
use Rattle.laws.proofs.Words.{refuted}
use Rattle.wire.specs.Header.{payload_of}
use Rattle.keywords.specs.Keywords.{keywords_of}
use Rattle.keywords.specs.Hash.{place_of}
use Rattle.keywords.proofs.PlaceLaws.{place-below}
use Rattle.tables.specs.Tables.{Held, good_length}
use Rattle.tables.specs.Admission.{withholds, Withheld}
use Rattle.tables.proofs.AdmissionLaws.{withheld-exactly}
use Rattle.tables.proofs.Answers.{power_of}
use Rattle.tablemessages.specs.RoundTrip.{settled_as}
use Rattle.namearea.specs.Area.{names_in}
use Rattle.nametable.specs.Table.{own_entries, table_out}
use Rattle.nametable.specs.Words.{Carried}
use Rattle.nametable.proofs.Words.{table-exactly, table-long}
use Rattle.nametable.proofs.Answers.{table-refusals, table-leaves}
use Rattle.protocol.specs.declared.Line.{Line}
use Rattle.protocol.specs.State.{Station, line_at, held_at}
use Rattle.protocol.specs.Queries.{usual_limit, text_in}
use Rattle.protocol.specs.Periods.{life_left}
use Rattle.protocol.proofs.Matching.{line_set}
use Rattle.roundtrip.proofs.Feeding.{line-below}
use Rattle.roundtrip.proofs.RoundTrip.{station-round_trip}
use Rattle.parting.specs.Found.{Named, NamedPasses, GoesTo, FoundThroughCalls}
use Rattle.parting.proofs.Taken.{query-goes, own-goes}

-- The table of some names, with 2 to the power b entries
module _ (n b infinity : ℕ) (power : n ≡ 2 ^ b) (most : b ≤ 32) (low : 2 ≤ infinity) (names : List (List ℕ)) where
  abbrev entries : List ℕ
  entries = own_entries n infinity names

  abbrev table : Held
  table = settled_as entries infinity

  -- the entry at the place of a keyword of some name is 1, which is not Infinity and not above the TTL
  unstopped : (text : List ℕ) (ttl : ℕ) → 1 ≤ ttl → Named names text
      → Withheld table (λ k. get_or entries (place_of b k) 0) (keywords_of text) ttl → ⊥
  unstopped text ttl life named w =
      let k : List ℕ = w.1.0 in
      let v = named k w.1.1 in
      let inside : place_of b k < n = rw power (place-below b k most) in
      let one : get_or entries (place_of b k) 0 ≡ 1
      = (table-exactly n b power most infinity names (place_of b k) inside).near (v.0, v.1, (k, v.2, refl)) in
      ⊎_elim (λ q. omega arith) (λ q. omega arith) w.1.2

  lets-pass : (text : List ℕ) (ttl : ℕ) → 1 ≤ ttl → Named names text → withholds table (keywords_of text) ttl ≡ false
  lets-pass text ttl life named =
      let x = withheld-exactly table b most (table-long n infinity names ∙ power) (keywords_of text) ttl in
      refuted (withholds table (keywords_of text) ttl) (λ e. unstopped text ttl life named (x.0 e))

  -- at an open line that holds it
  module _ (s : Station) (route : List ℕ) (L : ℕ) (below : L < 8) (live : (line_at s L).live ≡ true)
      (held : held_at s L route ≡ table) where
    passes : (text : List ℕ) (ttl : ℕ) → 1 ≤ ttl → Named names text
        → withholds (held_at s L route) (keywords_of text) ttl ≡ false
    passes text ttl life named =
        ap (λ (h : Held). withholds h (keywords_of text) ttl) held ∙ lets-pass text ttl life named

    goes_to : GoesTo names L s route
    goes_to =
        record {
          arriving = λ l m t kind named other life ok.
              (query-goes s route l m t kind ok L below).1 (
                live,
                other,
                life,
                passes (text_in (payload_of m)) (life_left usual_limit m - 1) (omega arith) named,
              );
          own = λ number text out named ok.
              (own-goes s route number text out ok L below).1 (live, passes text usual_limit (omega arith) named);
        }

pub named-passes : NamedPasses
unfolding good_length
named-passes n infinity names text ttl long limit life named =
    let p = power_of n 2 15 long in
    let low : 2 ≤ infinity = leb-true 2 infinity (and_fst (leb 2 infinity) (leb infinity 127) limit) in
    lets-pass n p.bits infinity p.power (omega (arith, p.most)) low names text ttl life named

-- what the neighbour holds is the names' table, and its line is still open
pub found-through-calls : FoundThroughCalls
found-through-calls a n infinity out number had old before size written t s L route ok sixteen wrote room w outs q =
    let names : List (List ℕ) = names_in a in
    let new : List ℕ = take n (table_out a n infinity out) in
    let made : new ≡ own_entries n infinity names = (table-leaves a n infinity out).table ok in
    let long : length new ≡ n = ap length made ∙ table-long n infinity names in
    let x = station-round_trip number had old before new infinity size written t s L route sixteen wrote
    (rw long room) w outs q in
    let live = ap (λ (y : Station). (line_at y L).live) x.state
    ∙ ap (λ (y : Line). y.live) (line_set s L _ (line-below s L route w)) ∙ w.live in
    let c : Carried n infinity = ((table-refusals a n infinity (length out)).made.0 ok).1 in
    let most : c.0.0 ≤ 16 = c.0.2 in
    goes_to n c.0.0 infinity c.0.3 (omega arith) c.1.0 names _ _ L w.line live
    (x.held ∙ ap (λ (es : List ℕ). settled_as es infinity) made)
