-- Demand 2 over lists that bring bytes: from the base's claim on the whole messages that they come to.
-- Assumes nothing.
use Prim.Native.Nat.{ℕ}
use native.Mathlib.Omega.{arith}
use mathlib.Core.Path.{◌≡◌, refl, sym, ap, ap₂, ◌∙◌, subst, fun_ext}
use mathlib.Core.Bool.{Bool, true, false, ◌||◌}
use mathlib.Core.Logic.{◌⊎◌, inl, inr, ⊎_elim}
use mathlib.Core.List.{List, [], ◌∷◌, ◌++◌, map, append-nil, append_assoc}
use lib.ListN.{length, take, length-map}
use Rattle.laws.specs.Tests.{any, all}
use Rattle.laws.proofs.Refusals.{all_map}
use Rattle.protocol.specs.declared.Line.{Line}
use Rattle.protocol.specs.State.{Station, station_of, remembered}
use Rattle.protocol.specs.Memory.{capacity, Number, Query, no_twice}
use Rattle.protocol.specs.Order.{in_order}
use Rattle.protocol.specs.Calls.{fresh}
use Rattle.protocol.specs.Runs.{Call, Message, Made, World, outcome_of, step, run, start}
use Rattle.protocol.specs.Kept.{sized_line, Sized, Kept}
use Rattle.protocol.specs.Demand2.{
  took,
  brought_number,
  brought_by,
  closed,
  openings,
  Past,
  all_taken,
  Origin,
  Unknown,
  Gone,
  look_up,
  origin,
  hits_since,
  standing,
  standing_in,
  MemoryIs,
  Routed,
  AllRouted,
  taken_in,
  Brought,
  BackOnly,
}
use Rattle.protocol.proofs.Kept.{order-kept-by-lists}
use Rattle.protocol.proofs.Origins.{memory-history}
use Rattle.protocol.proofs.Demand2.{demand2}
use Rattle.protocol.proofs.Gone.{gone_forever}
use Rattle.protocol.proofs.Back.{answers-back}
use Rattle.receiving.specs.Events.{
  Event,
  Receiver,
  made_by,
  call_log,
  world_of,
  calls_of,
  reply_to,
  handle,
  handle_all,
  begin,
  wholes,
}
use Rattle.receiving.specs.Bare.{bare, bare_line, bare_made, bare_world}
use Rattle.receiving.specs.Demand2.{
  AllFedRouted,
  EventsDemand2,
  EventsMemory,
  EventsGone,
  EventsAnswersBack,
}
use Rattle.receiving.proofs.Bare.{bare-live, held-unread}
use Rattle.receiving.proofs.Cutting.{Comes, None, One, comes, cut-reply, cut-event, cutting, first_one}
use Rattle.receiving.proofs.Cutting.{handle_append}

-- A state is as long as its types have it with whatever held
sized-lines : (s : Station) (lines : List Line) → length lines ≡ length s.lines
    → all sized_line lines ≡ all sized_line s.lines → Sized s → Sized (station_of s.room lines s.memory)
sized-lines s lines n p z =
    record {
      eight = n ∙ z.eight;
      lo = z.lo;
      hi = z.hi;
      asker = z.asker;
      hits = z.hits;
      pongs = p ∙ z.pongs;
    }

pub sized-bare : (s : Station) → Sized s → Sized (bare s)
sized-bare s =
    sized-lines s (map bare_line s.lines) (length-map s.lines bare_line) (all_map bare_line sized_line s.lines)

sized_of : (s : Station) → Sized (bare s) → Sized s
sized_of s =
    sized-lines (bare s) s.lines (sym (length-map s.lines bare_line))
    (sym (all_map bare_line sized_line s.lines))

-- What demand 2 reads of a log is there with held bytes and shut marks aside
pub openings-bare : (l : ℕ) (log : List Made) → openings l (map bare_made log) ≡ openings l log
openings-bare l [] = refl
openings-bare l (d ∷ ds) = rw (openings-bare l ds)

pub taken-bare : (shut : ℕ → Bool) (log : List Made) (base : List Query)
    → all_taken shut (map bare_made log) base ≡ all_taken shut log base
unfolding all_taken
taken-bare shut [] base = refl
taken-bare shut (d ∷ ds) base =
    rw (
      openings-bare (brought_by d.call) ds,
      taken-bare shut ds base,
      taken-bare (λ l. shut l || closed d.call d.outcome.answer l) ds base,
    )

origin-bare : (n : ℕ) (log : List Made) (base : List Query) (x : Number)
    → origin n (map bare_made log) base x ≡ origin n log base x
origin-bare n log base x = ap (λ ps. look_up (take n ps) x) (taken-bare (λ l. false) log base)

pub hits-bare : (log : List Made) (base : List Query) (x : Number)
    → hits_since (map bare_made log) base x ≡ hits_since log base x
hits-bare [] base x = refl
hits-bare (d ∷ ds) base x = rw (hits-bare ds base x)

standing-bare : (n : ℕ) (log : List Made) (base : List Query)
    → standing_in n (map bare_made log) base ≡ standing_in n log base
standing-bare n log base =
    ap₂ (λ (hits : Number → ℕ) (ps : List Past). map (standing hits) (take n ps))
    (fun_ext (hits-bare log base)) (taken-bare (λ l. false) log base)

-- Every event, from every call
module _ (limit n : ℕ) (base : List Query) where
  routed-on : (w : World) (cs ds : List Call) → AllRouted limit n base w (cs ++ ds)
      → AllRouted limit n base (run w cs) ds
  routed-on w [] ds r = r
  routed-on w (c ∷ cs) ds r = routed-on (step w c) cs ds r.1

  routed-first : (w : World) (cs ds : List Call) (c : Call) → cs ≡ c ∷ [] → AllRouted limit n base w (cs ++ ds)
      → Routed limit n base w c (outcome_of w c)
  routed-first w cs ds c q r = (subst (λ (x : List Call). AllRouted limit n base w (x ++ ds)) q r).0

  all-fed : (w : Receiver) (es : List Event) → AllRouted limit n base (bare_world (world_of w)) (wholes w es)
      → AllFedRouted limit n base w es
  all-fed w [] r = tt
  all-fed w (e ∷ es) r =
      let v : World = bare_world (world_of w) in
      let rest : List Call = wholes (handle w e) es in (
        (λ c q. rw (cut-reply w e c q) at (routed-first v (calls_of w e) rest c q r)),
        all-fed (handle w e) es (rw (cut-event w e) (routed-on v (calls_of w e) rest r)),
      )

pub events-demand2 : EventsDemand2
events-demand2 s area held es z o =
    all-fed 7 capacity (remembered s) (begin s area held) es
    (demand2 (bare s) area (wholes (begin s area held) es) (sized-bare s z) ((held-unread s).order ∙ o))

-- What is remembered, and what is kept
memory_of : (s : Station) (log : List Made) (base : List Query) → MemoryIs capacity (bare s) (map bare_made log) base
    → MemoryIs capacity s log base
memory_of s log base q =
    let e = standing-bare capacity log base in
    record { last = q.last ∙ e; once = ap no_twice (sym e) ∙ q.once }

kept_of : (s s' : Station) → Kept (bare s) (bare s') → Kept s s'
kept_of s s' k =
    record {
      order = sym (held-unread s').order ∙ k.order;
      sized = sized_of s' k.sized;
      room = k.room;
    }

pub events-memory : EventsMemory
events-memory s area held es z o =
    let cs : List Call = wholes (begin s area held) es in
    let w : Receiver = handle_all (begin s area held) es in
    let order : in_order (bare s) ≡ true = (held-unread s).order ∙ o in
    record {
      memory = memory_of w.state (call_log w.log) (remembered s)
          (rw (← cutting (begin s area held) es) at (memory-history (bare s) area cs (sized-bare s z) order));
      kept = kept_of s w.state
          (rw (← cutting (begin s area held) es)
          at (order-kept-by-lists (start (bare s) area) cs (sized-bare s z) order));
    }

-- Gone stays gone: one event, and a list
gone-known : Gone ≡ Unknown → ⊥
gone-known e = let o : ◌≡◌ {A = ℕ} 0 1 = cc in omega arith

no_second : {A : Type 0} (x y z : A) (qs : List A) → x ∷ [] ≡ y ∷ (z ∷ qs) → ⊥
no_second x y z qs e = let o : ◌≡◌ {A = ℕ} 0 1 = cc in omega arith

module _ (s : Station) (area : List ℕ) (held : ℕ → List ℕ) (x : Number) (z : Sized s) (o : in_order s ≡ true) where
  abbrev after : List Event → Receiver
  after = handle_all (begin s area held)

  abbrev from : Receiver → Origin
  from w = origin capacity (call_log w.log) (remembered s) x

  abbrev from_calls : World → Origin
  from_calls w = origin capacity w.log (remembered s) x

  from-calls : (w : Receiver) → from w ≡ from_calls (bare_world (world_of w))
  from-calls w = sym (origin-bare capacity (call_log w.log) (remembered s) x)

  module _ (es : List Event) (e : Event) (g : from (after es) ≡ Gone) where
    abbrev w : Receiver
    w = after es

    abbrev reached : World
    reached = run (start (bare s) area) (wholes (begin s area held) es)

    is-reached : bare_world (world_of w) ≡ reached
    is-reached = cutting (begin s area held) es

    gone-now : from_calls reached ≡ Gone
    gone-now = ap from_calls (sym is-reached) ∙ sym (from-calls w) ∙ g

    -- the call that the event comes to
    module _ (c : Call) (q : calls_of w e ≡ c ∷ []) where
      from-call : from (handle w e) ≡ from_calls (run reached (c ∷ []))
      from-call =
          from-calls (handle w e) ∙ ap from_calls (cut-event w e)
          ∙ ap (λ cs. from_calls (run (bare_world (world_of w)) cs)) q
          ∙ ap (λ v. from_calls (run v (c ∷ []))) is-reached

      unknown_in : (ps qs : List Call) → c ∷ [] ≡ ps ++ qs → from_calls (run reached ps) ≡ Unknown
          → from (handle w e) ≡ Unknown
      unknown_in [] qs p u = absurd (gone-known (sym gone-now ∙ u))
      unknown_in (d ∷ []) qs p u =
          from-call ∙ ap (λ y. from_calls (run reached (y ∷ []))) (first_one c d qs p) ∙ u
      unknown_in (d ∷ (d' ∷ ps)) qs p u = absurd (no_second c d d' (ps ++ qs) p)

    gone-by : Comes w e → (from (handle w e) ≡ Gone) ⊎ (from (handle w e) ≡ Unknown)
    gone-by (None n _ _ _) =
        inl (ap (λ cs. origin capacity (made_by (reply_to w e) cs ++ call_log w.log) (remembered s) x) n ∙ g)
    gone-by (One c q _ _) =
        ⊎_elim (λ h. inl (from-call c q ∙ h)) (λ h. inr (unknown_in c q h.0 h.1 h.2 h.3))
        (gone_forever (bare s) area (wholes (begin s area held) es) (c ∷ []) x (sized-bare s z)
        ((held-unread s).order ∙ o) gone-now)

  gone-list : (es later : List Event) → from (after es) ≡ Gone
      → (from (after (es ++ later)) ≡ Gone)
      ⊎ ((ps qs : List Event) × (later ≡ ps ++ qs) × (from (after (es ++ ps)) ≡ Unknown))
  gone-list es [] g = inl (rw (append-nil es) g)
  gone-list es (e ∷ later) g =
      ⊎_elim
      (λ h. ⊎_elim
      (λ r. inl (onward later ∙ r))
      (λ r. inr (e ∷ r.0, r.1, ap (◌∷◌ e) r.2, onward r.0 ∙ r.3))
      (gone-list (es ++ (e ∷ [])) later (there ∙ h)))
      (λ h. inr (e ∷ [], later, refl, there ∙ h))
      (gone-by es e g (comes (after es) e))
    where
      there : from (after (es ++ (e ∷ []))) ≡ from (handle (after es) e)
      there = ap from (handle_append (begin s area held) es (e ∷ []))

      onward : (fs : List Event) → from (after (es ++ (e ∷ fs))) ≡ from (after (es ++ (e ∷ []) ++ fs))
      onward fs = ap (λ x. from (after x)) (sym (append_assoc es (e ∷ []) fs))

pub events-gone : EventsGone
events-gone s area held es later x z o = gone-list s area held x z o es later

-- A hit goes back: a call of the bare log is one of the log
no_call : {A : Type 0} (x : A) (ys xs : List A) → [] ≡ ys ++ (x ∷ xs) → ⊥
no_call x [] xs e = let o : ◌≡◌ {A = ℕ} 0 1 = cc in omega arith
no_call x (y ∷ ys) xs e = let o : ◌≡◌ {A = ℕ} 0 1 = cc in omega arith

-- a place in a list that was mapped is one in the list
record Split {A B : Type 0} (f : A → B) (xs : List A) (newer : List B) (b : B) (older : List B) : Type 0 where
  newer' : List A
  b' : A
  older' : List A
  split : xs ≡ newer' ++ (b' ∷ older')
  newer_is : newer ≡ map f newer'
  is : b ≡ f b'
  older_is : older ≡ map f older'

cons_split : {A B : Type 0} (f : A → B) (x : A) {xs : List A} {a b : B} {newer older : List B} → a ≡ f x
    → Split f xs newer b older → Split f (x ∷ xs) (a ∷ newer) b older
cons_split f x e r =
    record {
      newer' = x ∷ r.newer';
      b' = r.b';
      older' = r.older';
      split = ap (◌∷◌ x) r.split;
      newer_is = ap₂ ◌∷◌ e r.newer_is;
      is = r.is;
      older_is = r.older_is;
    }

map-split : {A B : Type 0} (f : A → B) (xs : List A) (newer : List B) (b : B) (older : List B)
    → map f xs ≡ newer ++ (b ∷ older) → Split f xs newer b older
map-split f [] newer b older e = absurd (no_call b newer older e)
map-split f (x ∷ xs) [] b older e =
    record { newer' = []; b' = x; older' = xs; split = refl; newer_is = refl; is = cc; older_is = cc }
map-split f (x ∷ xs) (a ∷ newer) b older e = cons_split f x (cc) (map-split f xs newer b older (cc))

taken_in_bare : (log : List Made) → taken_in (map bare_made log) ≡ taken_in log
taken_in_bare [] = refl
taken_in_bare (d ∷ ds) = rw (taken_in_bare ds)

closed-bare : (l : ℕ) (log : List Made)
    → any (λ d. closed d.call d.outcome.answer l) (map bare_made log)
    ≡ any (λ d. closed d.call d.outcome.answer l) log
closed-bare l [] = refl
closed-bare l (d ∷ ds) = ap (λ b. closed d.call d.outcome.answer l || b) (closed-bare l ds)

brought-bare : (n : ℕ) (log : List Made) (x : Number) (l opening : ℕ) → Brought n (map bare_made log) x l opening
    → Brought n log x l opening
brought-bare n log x l opening q =
    let r = map-split bare_made log q.newer q.taking q.older q.split in
    let call = ap (λ (d : Made). d.call) r.is in
    record {
      newer = r.newer';
      taking = r.b';
      older = r.older';
      split = r.split;
      taken = sym (ap (λ (d : Made). took d.call d.outcome.answer) r.is) ∙ q.taken;
      number = sym (ap brought_number call) ∙ q.number;
      by = sym (ap brought_by call) ∙ q.by;
      among = rw (ap taken_in r.newer_is ∙ taken_in_bare r.newer') at q.among;
      unclosed = sym (closed-bare l r.newer')
          ∙ sym (ap (any (λ d. closed d.call d.outcome.answer l)) r.newer_is) ∙ q.unclosed;
      before = sym (openings-bare l r.older') ∙ sym (ap (openings l) r.older_is) ∙ q.before;
    }

fresh-bare : (n : ℕ) → bare (fresh n).state ≡ (fresh n).state
unfolding fresh
fresh-bare n = refl

pub events-answers-back : EventsAnswersBack
events-answers-back n area held es e l m t a k q kind below to =
    let w : Receiver = handle_all (begin (fresh n).state area held) es in
    let cs : List Call = wholes (begin (fresh n).state area held) es in
    let back : BackOnly 512 (bare_world (world_of w))
    = subst (BackOnly 512) (sym (cutting (begin (fresh n).state area held) es))
    (subst (λ (s : Station). BackOnly 512 (run (start s area) cs)) (sym (fresh-bare n)) (answers-back n area cs)) in
    let r = back l m t a k kind below (rw (cut-reply w e (Message l m t a) q) to) in (
      sym (bare-live w.state k) ∙ r.0,
      brought-bare 512 (call_log w.log) _ k _ (rw (openings-bare k (call_log w.log)) at r.1),
    )
