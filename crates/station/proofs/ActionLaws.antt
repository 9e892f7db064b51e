-- Steps as the code hands them on: refused or taken, with what was written; and the parts of a message that the steps
-- read.
-- Assumes nothing.
use Prim.Native.Nat.{ℕ, ◌+◌, ◌-◌, ◌*◌, ◌/◌, ◌≤◌, ◌<◌, min}
use native.Mathlib.Omega.{arith}
use native.Mathlib.Nat.{mul-le-mul_right}
use mathlib.Core.Path.{◌≡◌, refl, sym, ap, ap₂, subst, ◌∙◌}
use mathlib.Core.Bool.{Bool, true, false, cond, ◌||◌}
use mathlib.Core.List.{List, []}
use lib.Dec.{eqb, leb, ltb}
use lib.ListN.{length, get_or, take, drop, length-take, length-drop, length-set}
use lib.Seq.{length-take-le}
use borrow.Author.Tests.{eq-eqb, ne_eqb, le-leb, eqb-false, leb-false, not-false}
use borrow.Rule.Slice.PartMut.{put_mid}
use Rattle.std.specs.Prelude.{Some, None}
use Rattle.laws.specs.Parts.{over}
use Rattle.laws.specs.Tests.{first_of, any}
use Rattle.laws.proofs.Refusals.{no-refusal, or_fst, or_snd}
use Rattle.laws.proofs.Writing.{lent-part}
use Rattle.wire.specs.declared.Header.{Header}
use Rattle.wire.specs.Header.{header_in, kind_of, ttl_of, hops_of, size_of, payload_of, hit_type, query_type}
use Rattle.wire.proofs.HeaderLaws.{payload-part}
use Rattle.tables.specs.Updates.{Updated}
use Rattle.tables.specs.Tables.{Held, held_in}
use Rattle.tables.specs.Updates.{update_answer, updated, answered, part_with}
use Rattle.protocol.specs.declared.Line.{Line}
use Rattle.protocol.specs.declared.Lookup.{Lookup}
use Rattle.protocol.specs.declared.Age.{Age}
use Rattle.protocol.specs.declared.Report.{Report}
use Rattle.protocol.specs.declared.Remembered.{Remembered}
use Rattle.protocol.specs.Memory.{lookup_in, remembered_in, no_age, age_after, pick_age, age_behind}
use Rattle.protocol.specs.Lines.{line_in, with_table, part_of, held_for}
use Rattle.protocol.specs.State.{line_only}
use Rattle.protocol.specs.Outcomes.{Step, only_to, written_for, hands_up, refused_or}
use Rattle.protocol.specs.Queries.{text_in, has_text, query_on, query_before, query_rules, life_of, query_to}
use Rattle.protocol.specs.Queries.{query_lines, query_taken, query_step}
use Rattle.protocol.specs.Hits.{hit_before, hit_rules, hit_taken, hit_step}
use Rattle.protocol.specs.Calls.{update_step}
use Rattle.protocol.proofs.Updates.{updated-within}
use Rattle.forwarding.specs.Messages.{passable, passed_on, count_if, written_if, passed_into}
use Rattle.forwarding.specs.declared.texts.Text.{Text}
use Rattle.forwarding.specs.Texts.{text_of}
use Rattle.forwarding.specs.Passing.{held_of}
use Rattle.forwarding.proofs.MessageLaws.{query-bytes, hit-bytes}
use Rattle.forwarding.proofs.TextLaws.{text-part, text-within}
use Rattle.station.specs.declared.actions.Action.{Action}
use Rattle.station.specs.declared.lines.View.{View}
use Rattle.station.specs.Actions.{action_of, view_of, quiet_report, quiet_action, aged_action, Does}
use Rattle.station.specs.Actions.{Sendable}
use Rattle.station.proofs.AgeLaws.{repeat_is, does-aged}

-- ---- a step that is picked by its number

abbrev picked : ℕ → Line → List ℕ → Step → Step
picked n x area r = refused_or n (line_only x) area r

module _ (n : ℕ) (x : Line) (area : List ℕ) (r : Step) (out : List ℕ) where
  pub step-refused : {a : ℕ} {act : Action} → a ≡ n → (a ≡ 0 → ⊥) → act ≡ quiet_action a x
      → Does (picked n x area r) act out out
  step-refused e z ea =
      rw (ne_eqb n 0 (λ y. z (e ∙ y))) (record { action = ea ∙ ap (λ k. quiet_action k x) e; output = refl })

  pub step-taken : {a : ℕ} {act : Action} {out' : List ℕ} → a ≡ n → a ≡ 0 → Does r act out out'
      → Does (picked n x area r) act out out'
  step-taken e z d = rw (eq-eqb n 0 (sym e ∙ z)) d

-- ---- the parts of a message

-- one of eight parts ends within the area
pub part-within : (l room area : ℕ) → l < 8 → area / 8 ≡ room → l * room + room ≤ area
part-within l room area h e = let p : (l + 1) * room ≤ 8 * room = mul-le-mul_right room (omega arith) in omega arith

-- ---- an update

module _ (room l : ℕ) (x : Line) (m route : List ℕ) (inside : l * room + room ≤ length route) where
  -- the part that is lent
  abbrev lent : List ℕ
  lent = take (l * room + room - l * room) (drop (l * room) route)

  lent_is : lent ≡ part_of room l route
  lent_is = let w : l * room + room - l * room ≡ room = omega arith in rw w

  lent-long : length lent ≡ room
  lent-long = ap length lent_is ∙ length-take-le room (drop (l * room) route)
      (omega (arith, length-drop (l * room) route))

  abbrev answer_of : ℕ → List ℕ → List ℕ → ℕ
  answer_of n part p = update_answer n (held_in x.table part) (ttl_of m) (hops_of m) p

  abbrev held_after : ℕ → List ℕ → List ℕ → Held
  held_after n part p = updated n (held_in x.table part) (ttl_of m) (hops_of m) p

  front : (n : ℕ) (part p : List ℕ) → length part ≡ n → length (held_after n part p).entries ≤ n
  front n part p e =
      updated-within n (held_in x.table part) (ttl_of m) (hops_of m) p
      (omega (arith, length-take x.table.length part))

  -- what the reader's function ensures of a header and a payload
  abbrev Read : Header → List ℕ → Updated → List ℕ → Type 0
  Read h p u left =
      (u ≡ answered (update_answer (length lent) (held_in x.table lent) h.ttl h.hops p)
      (updated (length lent) (held_in x.table lent) h.ttl h.hops p))
      × (left ≡ part_with (updated (length lent) (held_in x.table lent) h.ttl h.hops p) lent)

  pub update-done : (h : Header) {u : Updated} {left : List ℕ} {r : Action} → h ≡ header_in m
      → Read h (take (23 + h.size - 23) (drop 23 m)) u left
      → r ≡ quiet_action u.answer (with_table x u.table)
      → (r ≡ action_of (update_step room l x m route))
      × (put_mid (l * room) (l * room + room - l * room) route left ≡ (update_step room l x m route).route)
  unfolding update_step
  update-done h {u} {left} eh both er =
      let p : List ℕ = take (23 + size_of m - 23) (drop 23 m) in
      let ep : p ≡ payload_of m = payload-part m (size_of m) refl in
      let read : Read (header_in m) p u left =
      subst (λ (h : Header). Read h (take (23 + h.size - 23) (drop 23 m)) u left) eh both in
      let eu = read.0 in
      let el = read.1 in
      let inner : length (held_after (length lent) lent p).entries ≤ room =
      omega (arith, front (length lent) lent p refl, lent-long) in (
        er
            ∙ ap (λ (v : Updated). quiet_action v.answer (with_table x v.table)) eu
            ∙ ap₂ (λ n q. quiet_action (answer_of n q p) (with_table x (held_after n q p).table)) lent-long lent_is
            ∙ ap (λ q. quiet_action (answer_of room (part_of room l route) q)
            (with_table x (held_after room (part_of room l route) q).table)) ep,
        lent-part (l * room) (l * room + room - l * room) (held_after (length lent) lent p).entries route _
            (omega arith) (omega arith) el
            ∙ ap₂ (λ n q. over (l * room) (held_after n q p).entries route) lent-long lent_is
            ∙ ap (λ q. over (l * room) (held_after room (part_of room l route) q).entries route) ep,
      )

-- ---- a message passed on

passed_length : (m : List ℕ) (n ttl hops : ℕ) → n ≤ length m → length (passed_on m n ttl hops) ≡ n
passed_length m n ttl hops h = simp length-set (length-take-le n m h)

module _ {h : Header} {kind : ℕ} (m out : List ℕ) (p : Sendable h kind m (length out)) where
  pub size_is : h.size ≡ size_of m
  size_is = ap (λ (h : Header). h.size) p.message.header

  kind-is : kind_of m ≡ kind
  kind-is = sym (ap (λ (h : Header). h.kind) p.message.header) ∙ p.kind'

  fits : passable m (23 + h.size) out ≡ true
  fits =
      let w : 23 + h.size ≤ length m = omega (arith, size_is, p.message.whole) in
      let r : 23 + h.size ≤ length out = omega (arith, size_is, p.message.small, p.output) in
      rw (
        le-leb 23 (23 + h.size) (omega arith),
        le-leb (23 + h.size) (length m) w,
        le-leb (23 + h.size) (length out) r,
      )

  -- its bytes and their number, where they are such a message
  module _ (ttl hops : ℕ) {bytes : List ℕ} (eb : passed_on m (23 + size_of m) ttl hops ≡ bytes) where
    pass-bytes : {o : List ℕ} → o ≡ passed_into m (23 + h.size) ttl hops out → o ≡ over 0 bytes out
    pass-bytes e =
        e
        ∙ ap (λ b. written_if b (passed_on m (23 + h.size) ttl hops) out) fits
        ∙ ap (λ l. over 0 l out) (ap (λ k. passed_on m (23 + k) ttl hops) size_is ∙ eb)

    pass-count : {w : ℕ} → w ≡ count_if (passable m (23 + h.size) out) (23 + h.size) → w ≡ length bytes
    pass-count e =
        e
        ∙ ap (λ b. count_if b (23 + h.size)) fits
        ∙ ap (λ k. 23 + k) size_is
        ∙ sym (passed_length m (23 + size_of m) ttl hops p.message.whole)
        ∙ ap length eb

-- ---- a hit

-- a report that is changed where it is told so: how many bytes are sent, and to which lines; a hit that is delivered
abbrev pub sent_in : Report → ℕ → List Bool → Report
sent_in q w to =
    record {
      answer = q.answer;
      used = q.used;
      written = w;
      to = to;
      search = q.search;
      delivered = q.delivered;
      textat = q.textat;
      textlen = q.textlen;
      age = q.age;
    }

abbrev delivered_in : Report → Report
delivered_in q =
    record {
      answer = q.answer;
      used = q.used;
      written = q.written;
      to = q.to;
      search = q.search;
      delivered = true;
      textat = q.textat;
      textlen = q.textlen;
      age = q.age;
    }

pub record Goes (h : Header) : Type 0 where
  pub lives : 1 < h.ttl
  pub rises : h.hops ≡ 255 → ⊥

module _ (h : Header) (k : Lookup) {a : ℕ} (e : a ≡ first_of (hit_rules h k)) (z : a ≡ 0) (ne : k.asker ≡ 8 → ⊥) where
  pub hit-goes : Goes h
  hit-goes =
      let p = no-refusal (hit_rules h k) refl (sym e ∙ z) in
      let t : eqb h.ttl 1 ≡ false = rw (ne_eqb k.asker 8 ne) at p.1.1.1.1.1.0 in
      let u : eqb h.hops 255 ≡ false = rw (ne_eqb k.asker 8 ne) at p.1.1.1.1.1.1.0 in
      record {
        lives = omega (arith, eqb-false h.ttl 0 p.1.0, eqb-false h.ttl 1 t);
        rises = eqb-false h.hops 255 u;
      }

told-asker : (found : Bool) (r q : Remembered) → cond found (Some r) None ≡ Some q → r.asker ≡ q.asker
told-asker true r q e = ap (λ k. (lookup_in k).asker) e
told-asker false r q e = cc

-- the query that a look-up tells of was asked by the look-up's asker
pub asker-told : (k : Lookup) (q : Remembered) → remembered_in k ≡ Some q → k.asker ≡ q.asker
asker-told k q e = told-asker k.found record { after = k.after; asker = k.asker; hits = k.hits } q e

module _ (x : Line) (h : Header) (k : Lookup) (m area out : List ℕ) (p : Sendable h hit_type m (length out)) {a : ℕ}
    (e : a ≡ first_of (hit_rules h k)) {age : Age} (eage : age ≡ age_behind (hit_before h) k) where
  hit-number : a ≡ first_of (hit_rules (header_in m) k)
  hit-number = e ∙ ap (λ (h : Header). first_of (hit_rules h k)) p.message.header

  hit-age : age ≡ age_behind (hit_before (header_in m)) k
  hit-age = eage ∙ ap (λ (h : Header). age_behind (hit_before h) k) p.message.header

  -- what a hit does, with the age that was handed up
  hit-aged : {act : Action} {out' : List ℕ}
      → Does (picked (first_of (hit_rules (header_in m) k)) x area (hit_taken x k m area)) act out out'
      → Does (hit_step x k m area) (aged_action age act) out out'
  unfolding hit_step
  hit-aged {act} {out'} d =
      subst (λ b. Does (hands_up b (picked (first_of (hit_rules (header_in m) k)) x area (hit_taken x k m area)))
      (aged_action age act) out out') hit-age (does-aged age d)

  pub hit-refused : {act : Action} → (a ≡ 0 → ⊥) → act ≡ aged_action age (quiet_action a x)
      → Does (hit_step x k m area) act out out
  hit-refused z ea = rw ea (hit-aged (step-refused _ x area (hit_taken x k m area) out hit-number z refl))

  -- one that is delivered or passed back: its query has had one hit more
  abbrev hit_action : Report → Action
  hit_action q = record { report = q; line = x; remember = false; answered = true }

  module _ (z : a ≡ 0) {q : Report} (eq : q ≡ quiet_report 0) where
    pub hit-here : k.asker ≡ 8 → Does (hit_step x k m area)
        (aged_action age (hit_action (delivered_in q))) out out
    hit-here f =
        let t = eq-eqb k.asker 8 f in
        hit-aged (step-taken _ x area (hit_taken x k m area) out hit-number z
        (record {
          action = ap (λ (q : Report). hit_action (delivered_in q)) eq ∙ rw t;
          output = rw t;
        }))

    pub hit-on : {w : ℕ} {to : List Bool} {out' : List ℕ} → (k.asker ≡ 8 → ⊥) → ((i : ℕ) → get_or m i 0 < 256)
        → w ≡ count_if (passable m (23 + h.size) out) (23 + h.size) → to ≡ only_to k.asker
        → out' ≡ passed_into m (23 + h.size) (h.ttl - 1) (h.hops + 1) out
        → Does (hit_step x k m area) (aged_action age (hit_action (sent_in q w to))) out out'
    hit-on {w} {to} f bytes ew et eo =
        let t = ne_eqb k.asker 8 f in
        let eb = hit-bytes m p.message.whole bytes (kind-is m out p) in
        let ends =
        ap (λ (j : Header). passed_into m (23 + h.size) (j.ttl - 1) (j.hops + 1) out) p.message.header in
        hit-aged (step-taken _ x area (hit_taken x k m area) out hit-number z
        (record {
          action = ap (λ (q : Report). hit_action (sent_in q w to)) eq
              ∙ rw (t, pass-count m out p _ _ eb ew, et);
          output = rw t (pass-bytes m out p _ _ eb (eo ∙ ends));
        }))

-- ---- a query's text, its life and its lines

pub record Taken (limit : ℕ) (h : Header) (ended : Bool) : Type 0 where
  pub text : ended ≡ true
  pub lives : 0 < h.ttl
  pub rises : h.hops < limit

pub query-goes : (limit : ℕ) (h : Header) (ended : Bool) (k : Lookup) {a : ℕ} → a ≡ first_of (query_rules limit h ended k)
    → a ≡ 0 → Taken limit h ended
query-goes limit h ended k e z =
    let p = no-refusal (query_rules limit h ended k) refl (sym e ∙ z) in
    let r : (ltb 15 h.ttl || leb limit h.hops) ≡ false = or_snd (eqb h.ttl 0) _ p.1.0 in
    let a = or_fst (eqb h.ttl 0) _ p.1.0 in
    record {
      text = not-false ended p.0;
      lives = omega (arith, eqb-false h.ttl 0 a);
      rises = leb-false limit h.hops (or_snd (ltb 15 h.ttl) (leb limit h.hops) r);
    }

-- what is read off a query: whether a text ends, and how long it is
module _ (m : List ℕ) (size : ℕ) (es : size ≡ size_of m) (t : Text)
    (et : t ≡ text_of (take (23 + size - 23) (drop 23 m))) where
  abbrev part : List ℕ
  part = take (23 + size - 23) (drop 23 m)

  text-is : t ≡ text_of (payload_of m)
  text-is = et ∙ ap text_of (payload-part m size es)

  pub asked-ended : t.ended ≡ has_text (payload_of m)
  asked-ended = ap (λ (u : Text). u.ended) text-is

  pub asked-length : t.length ≡ length (text_in (payload_of m))
  asked-length = ap (λ (u : Text). u.length) text-is

  pub asked-within : t.ended ≡ true → 2 + t.length ≤ length part
  asked-within e = text-within part t.length (ap (λ (u : Text). u.length) et)
      (sym (ap (λ (u : Text). u.ended) et) ∙ e)

  pub asked-fits : t.ended ≡ true → 2 + t.length ≤ size
  asked-fits e = omega (arith, asked-within e, length-take (23 + size - 23) (drop 23 m))

  pub asked-text : take (2 + t.length - 2) (drop 2 part) ≡ text_in (payload_of m)
  asked-text = text-part part t.length (ap (λ (u : Text). u.length) et) ∙ ap text_in (payload-part m size es)

abbrev searched_in : Report → ℕ → List Bool → ℕ → Report
searched_in q w to n =
    record {
      answer = q.answer;
      used = q.used;
      written = w;
      to = to;
      search = true;
      delivered = q.delivered;
      textat = 25;
      textlen = n;
      age = q.age;
    }

module _ (limit room : ℕ) (lines : List Line) (l : ℕ) (m route out : List ℕ) where
  pub query-done : {q : Report} {w n : ℕ} {to : List Bool} {x : Line} {out' : List ℕ} → q ≡ quiet_report 0
      → x ≡ line_in lines l
      → to ≡ query_lines limit room lines l m route
      → w ≡ cond (any (λ b. b) (query_lines limit room lines l m route)) (length (query_on limit m)) 0
      → n ≡ length (text_in (payload_of m))
      → out' ≡ over 0 (written_for (query_lines limit room lines l m route) (query_on limit m)) out
      → Does (query_taken limit room lines l m route)
      (record { report = searched_in q w to n; line = x; remember = true; answered = false }) out out'
  query-done {q} {w} {n} {to} {x} eq ex et ew en eo =
      record {
        action = ap
            (λ (q : Report). record { report = searched_in q w to n; line = x; remember = true; answered = false }) eq
            ∙ rw (ex, et, ew ∙ counted (any (λ b. b) (query_lines limit room lines l m route)), en);
        output = eo;
      }
    where
      counted : (b : Bool) → cond b (length (query_on limit m)) 0 ≡ length (cond b (query_on limit m) [])
      counted true = refl
      counted false = refl

-- ---- a query, given what is read off the lines and off the message

module _ (limit room l : ℕ) (v : View) (h : Header) (k : Lookup) (m out route : List ℕ)
    (p : Sendable h query_type m (length out))
    (t : Text) (et : t ≡ text_of (take (23 + h.size - 23) (drop 23 m)))
    {a : ℕ} (e : a ≡ first_of (query_rules limit h t.ended k)) where
  query-number : a ≡ first_of (query_rules limit (header_in m) (has_text (payload_of m)) k)
  query-number =
      e
      ∙ ap₂ (λ (h : Header) b. first_of (query_rules limit h b k)) p.message.header
      (asked-ended m h.size (size_is m out p) t et)

  -- the age, read off the answer
  query-age : pick_age (eqb a 9) (age_after k.after) no_age
      ≡ age_behind (query_before limit (header_in m) (has_text (payload_of m))) k
  query-age =
      ap (λ n. pick_age (eqb n 9) (age_after k.after) no_age) query-number
      ∙ repeat_is k (query_before limit (header_in m) (has_text (payload_of m))) refl

  module _ (lines : List Line) (ev : v ≡ view_of lines room l) where
    -- what a query does, with the age that was handed up
    query-aged : {age : Age} → age ≡ pick_age (eqb a 9) (age_after k.after) no_age → {act : Action} {out' : List ℕ}
        → Does (picked (first_of (query_rules limit (header_in m) (has_text (payload_of m)) k)) (line_in lines l) route
        (query_taken limit room lines l m route)) act out out'
        → Does (query_step limit room lines l k m route) (aged_action age act) out out'
    unfolding query_step
    query-aged {age} eage {act} {out'} d =
        subst (λ b. Does (hands_up b (picked (first_of (query_rules limit (header_in m) (has_text (payload_of m)) k))
        (line_in lines l) route (query_taken limit room lines l m route))) (aged_action age act) out out')
        (eage ∙ query-age) (does-aged age d)

    pub query-refused : {act : Action} {age : Age} → (a ≡ 0 → ⊥)
        → age ≡ pick_age (eqb a 9) (age_after k.after) no_age → act ≡ aged_action age (quiet_action a v.line)
        → Does (query_step limit room lines l k m route) act out out
    query-refused z eage ea =
        rw ea (query-aged eage
        (step-refused _ (line_in lines l) route (query_taken limit room lines l m route) out query-number z
        (ap (λ (v : View). quiet_action a v.line) ev)))

    -- the lines it goes on to, what is written, and how much
    module _ (z : a ≡ 0) {life : ℕ} (el : life ≡ min h.ttl (limit - h.hops)) {to : List Bool}
        (eto : to ≡ query_to life l (λ k. get_or v.live k false) (λ k. held_of v.tables room route k)
        (take (2 + t.length - 2) (drop 2 (take (23 + h.size - 23) (drop 23 m)))))
        {some : Bool} (es : some ≡ any (λ b. b) to) {w : ℕ}
        (ew : w ≡ cond some (count_if (passable m (23 + h.size) out) (23 + h.size)) 0) {out' : List ℕ}
        (eo : out' ≡ cond some (passed_into m (23 + h.size) (life - 1) (h.hops + 1) out) out)
        (bytes : (i : ℕ) → get_or m i 0 < 256) where
      as_sent : passed_on m (23 + size_of m) (life_of limit (header_in m) - 1) (hops_of m + 1) ≡ query_on limit m
      as_sent = query-bytes m p.message.whole bytes limit (kind-is m out p)

      life-is : life ≡ life_of limit (header_in m)
      life-is = el ∙ ap (life_of limit) p.message.header

      to_is : to ≡ query_lines limit room lines l m route
      to_is =
          eto
          ∙ ap (λ (v : View). query_to life l (λ k. get_or v.live k false) (λ k. held_of v.tables room route k)
          (take (2 + t.length - 2) (drop 2 (take (23 + h.size - 23) (drop 23 m))))) ev
          ∙ ap₂ (λ f w. query_to f l (λ k. (line_in lines k).live) (λ k. held_for room lines k route) w) life-is
          (asked-text m h.size (size_is m out p) t et)

      some_is : some ≡ any (λ b. b) (query_lines limit room lines l m route)
      some_is = es ∙ ap (any (λ b. b)) to_is

      bytes-by : (b : Bool) → cond b (passed_into m (23 + h.size) (life - 1) (h.hops + 1) out) out
          ≡ over 0 (cond b (query_on limit m) []) out
      bytes-by true =
          ap₂ (λ f (h' : Header). passed_into m (23 + h.size) (f - 1) (h'.hops + 1) out) life-is p.message.header
          ∙ pass-bytes m out p _ _ as_sent refl
      bytes-by false = refl

      count_by : (b : Bool) → cond b (count_if (passable m (23 + h.size) out) (23 + h.size)) 0
          ≡ cond b (length (query_on limit m)) 0
      count_by true = pass-count m out p _ _ as_sent refl
      count_by false = refl

      pub query-passed : {q : Report} → q ≡ quiet_report 0
          → Does (query_step limit room lines l k m route)
          (record {
            report = searched_in q w to t.length;
            line = v.line;
            remember = true;
            answered = false;
          }) out out'
      query-passed {q} eq =
          query-aged (ap (λ (q : Report). q.age) eq ∙ rw z)
          (step-taken _ (line_in lines l) route (query_taken limit room lines l m route) out query-number z
          (query-done limit room lines l m route out eq (ap (λ (v : View). v.line) ev) to_is
          (ew ∙ ap (λ b. cond b (count_if (passable m (23 + h.size) out) (23 + h.size)) 0) some_is
          ∙ count_by (any (λ b. b) (query_lines limit room lines l m route)))
          (asked-length m h.size (size_is m out p) t et)
          (eo ∙ ap (λ b. cond b (passed_into m (23 + h.size) (life - 1) (h.hops + 1) out) out) some_is
          ∙ bytes-by (any (λ b. b) (query_lines limit room lines l m route)))))
