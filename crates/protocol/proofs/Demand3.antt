-- Demand 3, proved: the invariant holds at the start, each call keeps it, and so does every list of calls.
-- Assumes nothing.
use Prim.Native.Nat.{ℕ, ◌-◌, ◌*◌, ◌/◌, ◌≤◌, ◌<◌, zero-le}
use native.Mathlib.Omega.{arith}
use native.Mathlib.Nat.{mul-le-mul_right}
use mathlib.Core.Path.{◌≡◌, refl, sym, ap, ap₂, ◌∙◌, subst}
use mathlib.Core.Bool.{Bool, true, false, cond, not, ◌&&◌, and-false}
use mathlib.Core.Logic.{◌↔◌}
use mathlib.Core.List.{List, [], ◌∷◌, ◌++◌}
use lib.Dec.{eqb, leb}
use lib.ListN.{length, get_or, take, drop, set, length-set, length-take}
use lib.Seq.{take-take}
use lib.IntN.{pos, ◌+ℤ◌}
use borrow.Author.Tests.{eqb-true, eqb-false, eq-eqb, ne_eqb, not-true}
use Rattle.laws.specs.Tests.{first_of}
use Rattle.laws.proofs.Refusals.{clash, of_choice}
use Rattle.laws.proofs.Overlay.{over-read, over-apart}
use Rattle.wire.specs.Header.{header_in, kind_of, ttl_of, hops_of, payload_of}
use Rattle.wire.specs.Header.{route_update, query_type, hit_type, ping_type, pong_type}
use Rattle.tables.specs.declared.Table.{Table}
use Rattle.tables.specs.Tables.{Held, settled, held_in, no_table}
use Rattle.tables.specs.Updates.{update_answer, updated}
use Rattle.tables.specs.Answers.{Answers}
use Rattle.tables.proofs.Answers.{answers}
use Rattle.protocol.specs.declared.Age.{Age}
use Rattle.protocol.specs.declared.Line.{Line}
use Rattle.protocol.specs.State.{Station, line_at, with_line, held_at}
use Rattle.protocol.specs.Lines.{empty_line, nowhere, with_table, part_of}
use Rattle.protocol.specs.Order.{in_order}
use Rattle.protocol.specs.Outcomes.{Terms, Outcome, quiet, hands_up, unused}
use Rattle.protocol.specs.Queries.{usual_limit, life_of, text_in, passes, goes_on}
use Rattle.protocol.specs.Pings.{is_probe, time_kept}
use Rattle.protocol.specs.Calls.{opening, closed_state, closing, update_step, arrived, arriving, own_answer}
use Rattle.protocol.specs.Calls.{own_age, own_taken, asking}
use Rattle.protocol.specs.Runs.{Area, Same, Other, Call, Open, Close, Message, Ask, World, unsent, lent}
use Rattle.protocol.specs.Runs.{kept_area}
use Rattle.protocol.specs.Runs.{outcome_of, area_after, step, run, start, FairArea, FairCall, Fair}
use Rattle.protocol.specs.Expected.{Expected, wiped, asks, brought, is_update_of, expected_answer, hears}
use Rattle.protocol.specs.Expected.{feed, expected}
use Rattle.protocol.specs.History.{Update, updates_of, sum_at}
use Rattle.protocol.specs.Demand3.{life_left, MayGo, Forwarded, update_in, Agrees, entries_at, Stands, Demand3}
use Rattle.protocol.proofs.Updates.{Sound, sound-updated, updated-within, update-sent}
use Rattle.protocol.proofs.Account.{Accounts, no_held, nothing_yet, account_call}
use Rattle.protocol.proofs.Forwarding.{goes_iff, passes_iff, forwarded}
use Rattle.protocol.proofs.Outcomes.{other-type, of_refused, opening_in, closing_in, each_line-at}
use Rattle.protocol.proofs.Outcomes.{all-unused, unused-some, LetIn, asked_in}
use Rattle.protocol.proofs.ByType.{ping_done, pong_done, query_done, hit_done, update_number, held_after, update_done}
use Rattle.protocol.proofs.ByType.{of_types, of_message}
use Rattle.protocol.proofs.InOrder.{closed-mark}
use Rattle.protocol.proofs.Matching.{Matches, LeftAlone, left_alone, untouched, line_set, other-line, same_line}

-- what a call has to leave where e was expected before it
abbrev Good : (limit L room : ℕ) → Call → Expected → List Update → List ℕ → Outcome → Type 0
Good limit L room c e us area o =
    Matches L room (feed L room (brought c) (unsent c o.answer) e) o.state (area_after c area o.route)
    × Agrees limit L room e us c o

pub feed-ask : (L room : ℕ) (b : Bool) (e : Expected) → feed L room asks b e ≡ e
unfolding feed
feed-ask L room true e = refl
feed-ask L room false e = refl

pub kept-lent : (a : Area) (r : List ℕ) → kept_area a r (lent a r) ≡ r
kept-lent Same r = refl
kept-lent (Other x) r = refl

read_as : {a b : Bool} {P : Type 0} → a ≡ b → (b ≡ true) ↔ P → (a ≡ true) ↔ P
read_as {P = P} e f = subst (λ (x : Bool). (x ≡ true) ↔ P) (sym e) f

module _ (limit L room : ℕ) (seven : L ≤ 7) (e : Expected) (us : List Update) (told : Accounts e.held us)
    (s : Station) (area : List ℕ) (q : Matches L room e s area) where
  abbrev After : Call → Outcome → Type 0
  After c o = Good limit L room c e us area o

  below : L < length s.lines
  below = omega (arith, q.eight)

  -- what the station reads of line L is what is expected, while it is open; a closed line gets nothing
  read_same : (G : Bool → Held → Bool) → ((h : Held) → G false h ≡ false)
      → G (line_at s L).live (held_at s L area) ≡ G e.live e.held
  read_same G z = go (line_at s L).live refl
    where
      go : (b : Bool) → (line_at s L).live ≡ b → G (line_at s L).live (held_at s L area) ≡ G e.live e.held
      go true o = ap₂ G (sym q.live) (sym (q.while_open o))
      go false o =
          ap (λ b. G b (held_at s L area)) o ∙ z (held_at s L area) ∙ sym (z e.held)
          ∙ ap (λ b. G b e.held) (sym (q.live ∙ o))

  -- a message that is no update of line L and leaves it alone
  module _ (l : ℕ) (m : List ℕ) (t : Terms) where
    abbrev AfterMessage : Outcome → Type 0
    AfterMessage o = After (Message l m t Same) o

    abbrev text : List ℕ
    text = text_in (payload_of m)

    aside : (o : Outcome) → unused o.answer ≡ false → is_update_of L l m ≡ false
        → LeftAlone L s area o.state o.route
        → (o.answer ≡ 0 → kind_of m ≡ 0x80
        → Forwarded e us (MayGo limit e L l m) text (life_left limit m - 1) (get_or o.to L false))
        → AfterMessage o
    unfolding feed
    aside o u v w g = (rw (u, v) (left_alone q w), ((λ _ y. absurd (clash y v)), g))

    not-update : eqb (kind_of m) route_update ≡ false → is_update_of L l m ≡ false
    not-update k = ap (λ b. eqb l L && b) k ∙ and-false (eqb l L)

    no-query : (k : ℕ) → eqb (kind_of m) k ≡ true → eqb k 0x80 ≡ false → kind_of m ≡ 0x80 → ⊥
    no-query k i n = eqb-false (kind_of m) 0x80 (other-type m k 0x80 i n)

    -- neither an update nor a query
    neither : (k : ℕ) → eqb (kind_of m) k ≡ true → eqb k route_update ≡ false → eqb k 0x80 ≡ false
        → (o : Outcome) → unused o.answer ≡ false → LeftAlone L s area o.state o.route → AfterMessage o
    neither k i n p o u w =
        aside o u (not-update (other-type m k route_update i n)) w (λ _ y. absurd (no-query k i p y))

    ping-good : eqb (kind_of m) ping_type ≡ true → AfterMessage (ping_done s l t m area)
    ping-good k =
        neither ping_type k refl refl (ping_done s l t m area) refl
        (same_line L s (with_line s l kept) area l kept refl refl below
        (of_choice (λ (x : Line). x.live ≡ (line_at s l).live) (is_probe (header_in m)) _ _ (λ _. refl) (λ _. refl))
        (of_choice (λ (x : Line). x.table ≡ (line_at s l).table) (is_probe (header_in m)) _ _ (λ _. refl) (λ _. refl)))
      where
        kept : Line
        kept = time_kept (line_at s l) (is_probe (header_in m)) t.clock

    abbrev goes : ℕ → Bool → Held → Bool
    goes k b h = goes_on (life_of limit (header_in m)) l k b h text

    goes_same : goes L (line_at s L).live (held_at s L area) ≡ goes L e.live e.held
    goes_same = read_same (goes L) (λ h. rw (and-false (leb 2 (life_left limit m))) (and-false (not (eqb L l))))

    query-good : eqb (kind_of m) query_type ≡ true → AfterMessage (query_done limit s l m area)
    query-good k =
        aside (query_done limit s l m area) refl (not-update (other-type m query_type route_update k refl))
        (untouched L s area _)
        (λ _ _. forwarded room e q.sound us told.speaking (MayGo limit e L l m) text (life_left limit m - 1) _
        (read_as (each_line-at (λ k. goes k (line_at s k).live (held_at s k area)) L seven ∙ goes_same)
        (goes_iff room e q.sound limit L l m)))

    -- an update of another line
    update-answered : unused (update_number s l m area) ≡ false
    update-answered =
        not-true (unused (update_number s l m area))
        (update-sent s.room (held_at s l area) (ttl_of m) (hops_of m) (payload_of m))

    other-update : l ≤ 7 → length area / 8 ≡ s.room → (L ≡ l → ⊥) → eqb (kind_of m) route_update ≡ true
        → AfterMessage (update_done s l m area)
    unfolding update_step
    other-update l≤7 areas ne k =
        let long : length (held_at s l area).entries ≤ s.room = simp length-take (omega arith) in
        let within = updated-within s.room (held_at s l area) (ttl_of m) (hops_of m) (payload_of m) long in
        let o : Outcome = update_done s l m area in
        aside o update-answered (ap (λ b. b && eqb (kind_of m) route_update) (ne_eqb l L (λ y. ne (sym y))))
        (other-line L s o.state area l (with_table (line_at s l) (held_after s l m area).table) refl refl o.route
        (over-apart L l s.room (held_after s l m area).entries area ne within l≤7 areas) ne)
        (λ _ y. absurd (no-query route_update k refl y))

  -- an update of line L itself
  module _ (m : List ℕ) (t : Terms) (open' : (line_at s L).live ≡ true) (areas : length area / 8 ≡ s.room)
      (k : eqb (kind_of m) route_update ≡ true) where
    abbrev then' : Held
    then' = held_after s L m area

    abbrev o : Outcome
    o = update_done s L m area

    abbrev line : Line
    line = with_table (line_at s L) then'.table

    heard : (hears room m e).held ≡ then'
    heard = ap₂ (λ r h. updated r h (ttl_of m) (hops_of m) (payload_of m)) (sym q.same_room) (q.while_open open')

    sound-heard : Sound room (hears room m e).held
    sound-heard = sound-updated room e.held (ttl_of m) (hops_of m) (payload_of m) q.sound

    sound_then : Sound s.room then'
    sound_then =
        subst (λ (r : ℕ). Sound r then') (sym q.same_room) (subst (λ (h : Held). Sound room h) heard sound-heard)

    line_then : line_at o.state L ≡ line
    unfolding update_step
    line_then = line_set s L line below

    held_then : held_at o.state L o.route ≡ then'
    unfolding update_step
    held_then =
        let n : ℕ = then'.table.length in
        let from : ℕ = L * s.room in
        let p : from ≤ 7 * s.room = mul-le-mul_right s.room seven in
        let g : take n (part_of s.room L o.route) ≡ then'.entries
        = take-take n s.room (drop from o.route) sound_then.within
        ∙ ap (λ n. take n (drop from o.route)) (sym sound_then.full)
        ∙ over-read from then'.entries area (omega arith) in
        ap (λ (x : Line). held_in x.table (part_of s.room L o.route)) line_then
        ∙ (λ i. record { table = then'.table; entries = g i })

    own-update : After (Message L m t Same) o
    unfolding update_step feed
    own-update =
        let u : is_update_of L L m ≡ true = ap₂ (λ a b. a && b) (eq-eqb L L refl) k in
        let v : (line_at o.state L).live ≡ (line_at s L).live = ap (λ (x : Line). x.live) line_then in
        let a : o.answer ≡ expected_answer room e m
        = ap₂ (λ r h. update_answer r h (ttl_of m) (hops_of m) (payload_of m)) q.same_room (sym (q.while_open open')) in (
          rw (update-answered L m t, u)
              (record {
                same_room = q.same_room;
                eight = length-set s.lines L line ∙ q.eight;
                live = q.live ∙ sym v;
                while_open = λ _. heard ∙ sym held_then;
                while_closed = λ o. absurd (clash (v ∙ open') o);
                sound = sound-heard;
              }),
          (
            (λ _ _. (
              a,
              subst (λ (n : ℕ). Answers room us (update_in m) n) (sym a) (answers room e.held us told (update_in m)),
            )),
            (λ _ y. absurd (no-query L m t route_update k refl y)),
          ),
        )

  update-good : (l : ℕ) (m : List ℕ) (t : Terms) → LetIn s l m (length area) → eqb (kind_of m) route_update ≡ true
      → After (Message l m t Same) (update_done s l m area)
  update-good l m t d k = go (eqb l L) refl
    where
      go : (b : Bool) → eqb l L ≡ b → After (Message l m t Same) (update_done s l m area)
      go true z =
          subst (λ (x : ℕ). (line_at s x).live ≡ true → After (Message x m t Same) (update_done s x m area))
          (sym (eqb-true l L z)) (λ o. own-update m t o d.room k) d.live
      go false z = other-update l m t d.line d.room (λ y. eqb-false l L z (sym y)) k

  -- an arriving message
  types_good : (l : ℕ) (m : List ℕ) (t : Terms) → LetIn s l m (length area)
      → After (Message l m t Same) (arrived limit s l m t area)
  types_good l m t d =
      of_types (After (Message l m t Same)) s l m area
      (λ n a r. aside l m t (hands_up a (quiet n s area)) r.used (not-update l m t r.type)
      (untouched L s area s.memory) (λ y. absurd (r.some y)))
      limit t
      (λ k _. ping-good l m t k)
      (λ k _. neither l m t pong_type k refl refl (pong_done s l t.clock m area) refl
      (same_line L s (pong_done s l t.clock m area).state area l _ refl refl below refl refl))
      (update-good l m t d)
      (λ k _. query-good l m t k)
      (λ k _. neither l m t hit_type k refl refl (hit_done s l m area) refl (untouched L s area _))

  -- an area of another room is refused
  message-good : (l : ℕ) (m : List ℕ) (t : Terms) (a : Area) → FairArea room a
      → After (Message l m t a) (arriving limit s l m t (lent a area))
  unfolding feed
  message-good l m t a f =
      of_message (After (Message l m t a)) s l m (lent a area) limit t
      (λ n u. (
        rw (u, kept-lent a area) q,
        ((λ v. absurd (clash u v)), (λ z. absurd (unused-some n u z))),
      ))
      (let_in_good a f)
    where
      let_in_good : (a : Area) → FairArea room a → LetIn s l m (length (lent a area))
          → After (Message l m t a) (arrived limit s l m t (lent a area))
      let_in_good Same f d = types_good l m t d
      let_in_good (Other x) f d = absurd (f (d.room ∙ q.same_room))

  -- own queries
  own_same : (text : List ℕ)
      → passes (line_at s L).live (held_at s L area) text limit ≡ passes e.live e.held text limit
  own_same text = read_same (λ b h. passes b h text limit) (λ h. refl)

  asked-good : (age : Age) (number text : List ℕ) (t : Terms) (a : Area) → FairArea room a
      → own_answer s number text t.out (length (lent a area)) ≡ 0
      → After (Ask number text t a) (hands_up age (own_taken limit s number text (lent a area)))
  asked-good age number text t Same f z = (
    rw (feed-ask L room false e) (left_alone q (untouched L s area _)),
    (λ _. forwarded room e q.sound us told.speaking (e.live ≡ true) text limit _
        (read_as (each_line-at (λ k. passes (line_at s k).live (held_at s k area) text limit) L seven ∙ own_same text)
        (passes_iff room e q.sound text limit))),
  )
  asked-good age number text t (Other x) f z =
      absurd (f ((asked_in s number text t.out (length x) z).room ∙ q.same_room))

  ask-good : (number text : List ℕ) (t : Terms) (a : Area) → FairArea room a
      → After (Ask number text t a) (asking limit s number text t.out (lent a area))
  unfolding asking
  ask-good number text t a f =
      of_refused (λ o. After (Ask number text t a) (hands_up age o)) answer s (lent a area)
      (own_taken limit s number text (lent a area))
      (asked-good age number text t a f)
      (λ n. (rw (feed-ask L room (unused answer) e, kept-lent a area) q, (λ z. absurd (n z))))
    where
      age : Age
      age = own_age s number text t.out (length (lent a area))

      answer : ℕ
      answer = own_answer s number text t.out (length (lent a area))

  -- line L opened or closed: an empty record
  anew : (s' : Station) (live : Bool) → s'.room ≡ s.room → s'.lines ≡ set s.lines L (empty_line live)
      → Matches L room (wiped live) s' area
  anew s' live r z =
      let a : line_at s' L ≡ empty_line live = ap (λ ls. get_or ls L nowhere) z ∙ line_set s L (empty_line live) below in
      let t : (line_at s' L).table ≡ no_table = ap (λ (x : Line). x.table) a in
      record {
        same_room = r ∙ q.same_room;
        eight = ap length z ∙ length-set s.lines L (empty_line live) ∙ q.eight;
        live = sym (ap (λ (x : Line). x.live) a);
        while_open = λ _. ap (λ (x : Table). held_in x (part_of s'.room L area)) (sym t);
        while_closed = λ _. (refl, ap (λ (x : Table). x.mark) t);
        sound = record { full = refl; within = zero-le; good = refl };
      }

  -- line l opened or closed
  turned : (s' : Station) (l : ℕ) (live : Bool) → s'.room ≡ s.room → s'.lines ≡ set s.lines l (empty_line live)
      → Matches L room (cond (eqb l L) (wiped live) e) s' area
  turned s' l live r z =
      of_choice (λ x. Matches L room x s' area) (eqb l L) (wiped live) e
      (λ y. anew s' live r (z ∙ ap (λ k. set s.lines k (empty_line live)) (eqb-true l L y)))
      (λ y. left_alone q (other-line L s s' area l (empty_line live) r z area refl (λ w. eqb-false l L y (sym w))))

  opening-good : (l : ℕ) → After (Open l) (opening s l)
  unfolding opening feed
  opening-good l =
      of_refused (After (Open l)) (first_of (opening_in s l)) s [] (quiet 0 (with_line s l (empty_line true)) [])
      (λ _. (turned (with_line s l (empty_line true)) l true refl refl, (λ _. refl)))
      (λ n. let u = all-unused (opening_in s l) refl n in (rw u q, (λ v. absurd (clash u v))))

  closing-good : (l : ℕ) → After (Close l) (closing s l)
  unfolding closing feed
  closing-good l =
      of_refused (After (Close l)) (first_of (closing_in s l)) s [] (quiet 0 (closed_state s l) [])
      (λ _. (turned (closed_state s l) l false refl refl, (λ _. refl)))
      (λ n. let u = all-unused (closing_in s l) refl n in (rw u q, (λ v. absurd (clash u v))))

-- every call
module _ (L room : ℕ) (seven : L ≤ 7) (e : Expected) (us : List Update) (told : Accounts e.held us)
    (w : World) (q : Matches L room e w.state w.area) where
  call-good : (c : Call) → FairCall room c → Good usual_limit L room c e us w.area (outcome_of w c)
  call-good (Open l) f = opening-good usual_limit L room seven e us told w.state w.area q l
  call-good (Close l) f = closing-good usual_limit L room seven e us told w.state w.area q l
  call-good (Message l m t a) f = message-good usual_limit L room seven e us told w.state w.area q l m t a f
  call-good (Ask number text t a) f =
      ask-good usual_limit L room seven e us told w.state w.area q number text t a f

-- what is known of line L at a place of a list: the invariant, and what its updates come to
record Known (L room : ℕ) (w : World) : Type 0 where
  matches : Matches L room (expected L room w.log) w.state w.area
  accounts : Accounts (expected L room w.log).held (updates_of L w.log)

-- and so every list
module _ (L room : ℕ) (seven : L ≤ 7) where
  known-good : (w : World) → Known L room w → (c : Call) → FairCall room c
      → Good usual_limit L room c (expected L room w.log) (updates_of L w.log) w.area (outcome_of w c)
  known-good w k = call-good L room seven (expected L room w.log) (updates_of L w.log) k.accounts w k.matches

  known_on : (cs : List Call) (w : World) → Known L room w → Fair room cs → Known L room (run w cs)
  known_on [] w k f = k
  known_on (c ∷ cs) w k f =
      let g = known-good w k c f.0 in
      let e : Expected = expected L room w.log in
      let t = account_call usual_limit L room (outcome_of w c) e (updates_of L w.log) k.accounts c g.1 in
      known_on cs (step w c) (record { matches = g.0; accounts = t }) f.1

-- what stands, from the invariant and the account
module _ (L room : ℕ) (e : Expected) (us : List Update) (s : Station) (area : List ℕ) (q : Matches L room e s area)
    (t : Accounts e.held us) where
  stands : Stands L room e us s area
  stands = go (line_at s L).live refl
    where
      go : (b : Bool) → (line_at s L).live ≡ b → Stands L room e us s area
      go true o =
          let h : e.held ≡ held_at s L area = q.while_open o in
          let n : ℕ = (line_at s L).table.length in
          let long : n ≤ s.room = rw (ap (λ (x : Held). x.table.length) h, ← q.same_room) at q.sound.within in
          let same : entries_at s L area ≡ e.held.entries
          = sym (take-take n s.room (drop (L * s.room) area) long) ∙ sym (ap (λ (x : Held). x.entries) h) in
          record {
            room' = q.same_room;
            live = sym q.live;
            mark = sym (ap (λ (x : Held). x.table.mark) h);
            long = λ _. sym (q.sound.full ∙ ap (λ (x : Held). x.table.length) h);
            infinity = λ _. sym (ap (λ (x : Held). x.table.infinity) h);
            entries = λ _. same;
            closed = λ z. absurd (clash (q.live ∙ o) z);
            sums = λ j l.
                ap (λ es. pos (get_or es j 0)) same
                ∙ t.totals j l
                ∙ ap (λ (x : Held). pos x.table.infinity +ℤ sum_at us j) h;
            speaking = ap (λ (x : Held). eqb x.table.mark settled) (sym h) ∙ t.speaking;
          }
      go false o =
          let h : e.held ≡ no_held = (q.while_closed o).0 in
          let n : length e.held.entries ≡ 0 = ap (λ (x : Held). length x.entries) h in
          let m : (line_at s L).table.mark ≡ e.held.table.mark
          = (q.while_closed o).1 ∙ sym (ap (λ (x : Held). x.table.mark) h) in
          record {
            room' = q.same_room;
            live = sym q.live;
            mark = m;
            long = λ z. absurd (clash z (q.live ∙ o));
            infinity = λ z. absurd (clash z (q.live ∙ o));
            entries = λ z. absurd (clash z (q.live ∙ o));
            closed = λ _. ap (λ (x : Held). x.entries) h;
            sums = λ j p. absurd (omega arith);
            speaking = ap (λ k. eqb k settled) m ∙ t.speaking;
          }

-- the invariant holds at the start: the line is closed
begins : (s : Station) (area : List ℕ) (L : ℕ) → length s.lines ≡ 8 → in_order s ≡ true → L ≤ 7
    → (line_at s L).live ≡ false → Matches L s.room (wiped false) s area
begins s area L eight order seven closed =
    record {
      same_room = refl;
      eight = eight;
      live = sym closed;
      while_open = λ o. absurd (clash o closed);
      while_closed = λ _. (refl, closed-mark s L order (omega arith) closed);
      sound = record { full = refl; within = zero-le; good = refl };
    }

-- a part of a fair list is fair
pub fair_parts : (room : ℕ) (bs ds : List Call) → Fair room (bs ++ ds) → Fair room bs × Fair room ds
fair_parts room [] ds f = (tt, f)
fair_parts room (c ∷ bs) ds f = let p = fair_parts room bs ds f.1 in ((f.0, p.0), p.1)

pub demand3 : Demand3
demand3 s area L cs eight order seven closed fair =
    record {
      stands = λ before after e.
          let w : World = run (start s area) before in
          let k = known before after e in
          stands L s.room _ (updates_of L w.log) w.state w.area k.matches k.accounts;
      calls = λ before c after e.
          let w : World = run (start s area) before in
          (known-good L s.room seven w (known before (c ∷ after) e) c (parts before (c ∷ after) e).1.0).1;
    }
  where
    parts : (before after : List Call) → cs ≡ before ++ after → Fair s.room before × Fair s.room after
    parts before after e = fair_parts s.room before after (subst (λ (x : List Call). Fair s.room x) e fair)

    known : (before after : List Call) → cs ≡ before ++ after → Known L s.room (run (start s area) before)
    known before after e =
        known_on L s.room seven before (start s area)
        (record { matches = begins s area L eight order seven closed; accounts = nothing_yet })
        (parts before after e).0
