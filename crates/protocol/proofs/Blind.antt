-- A message call reads the message at the front of its bytes alone: two lists of bytes that read alike are taken
-- alike. And its answer is the first refusal of one ordered list.
-- Assumes nothing.
use Prim.Native.Nat.{ℕ, ◌+◌, ◌≤◌}
use native.Mathlib.Omega.{arith}
use mathlib.Core.Path.{◌≡◌, refl, sym, ap, ◌∙◌, subst}
use mathlib.Core.Bool.{Bool, true, false, cond, not, ◌||◌}
use mathlib.Core.List.{List, [], ◌∷◌, ◌++◌}
use lib.Dec.{eqb, ltb}
use lib.ListN.{length, take, drop, length-append, length-drop, get_or-append, take-append-drop}
use lib.Seq.{take-append-le, drop-append-le, length-take-le}
use borrow.Author.Tests.{le-ltb}
use Rattle.laws.specs.Tests.{first_of, all}
use Rattle.laws.proofs.Refusals.{first_append, of_choice}
use Rattle.wire.specs.Header.{number_of, kind_of, ttl_of, hops_of, size_of, payload_of, route_update, query_type}
use Rattle.wire.specs.Header.{hit_type, ping_type, pong_type}
use Rattle.tables.specs.Updates.{update_answer}
use Rattle.protocol.specs.declared.Line.{Line}
use Rattle.protocol.specs.declared.Lookup.{Lookup}
use Rattle.protocol.specs.State.{Station, looked_up, held_at}
use Rattle.protocol.specs.Memory.{number_in}
use Rattle.protocol.specs.Outcomes.{Terms, Step, pick_result, unused}
use Rattle.protocol.specs.Queries.{usual_limit, query_step}
use Rattle.protocol.specs.Hits.{hit_step}
use Rattle.protocol.specs.Pings.{ping_step, pong_step}
use Rattle.protocol.specs.Calls.{early, update_step, by_type, arrived, arriving}
use Rattle.protocol.specs.Blind.{Whole, TakenAlike, Blind, UsedExact, update_rules, type_rules, unnamed, Numbers}
use Rattle.protocol.proofs.Outcomes.{answer-refused, answer-taken, none-unused, early_in}
use Rattle.protocol.proofs.ByType.{ping_in, pong_in, query_in, hit_in}

-- all that a message call reads
pub record ReadsAlike (m' m : List ℕ) : Type 0 where
  pub number : number_of m' ≡ number_of m
  pub halves : number_in m' ≡ number_in m
  pub kind : kind_of m' ≡ kind_of m
  pub ttl : ttl_of m' ≡ ttl_of m
  pub hops : hops_of m' ≡ hops_of m
  pub size : size_of m' ≡ size_of m
  pub payload : payload_of m' ≡ payload_of m
  pub header : ltb (length m') 23 ≡ ltb (length m) 23
  pub whole : ltb (length m') (23 + size_of m) ≡ ltb (length m) (23 + size_of m)

module _ (m' m : List ℕ) (r : ReadsAlike m' m) where
  same_types : (limit room : ℕ) (lines : List Line) (l : ℕ) (k : Lookup) (t : Terms) (route : List ℕ)
      → by_type limit room lines l k m' t route ≡ by_type limit room lines l k m t route
  unfolding by_type ping_step pong_step update_step query_step hit_step
  same_types limit room lines l k t route = rw (r.payload, r.kind, r.size, r.ttl, r.hops, r.number)

  same-arriving : (limit : ℕ) (s : Station) (l : ℕ) (t : Terms) (route : List ℕ)
      → arriving limit s l m' t route ≡ arriving limit s l m t route
  unfolding arriving early
  same-arriving limit s l t route =
      let same = same_types limit s.room s.lines l (looked_up s (number_in m)) t route in
      rw (r.halves, same, r.size, r.header, r.whole)

  taken-alike : TakenAlike m' m
  taken-alike =
      record {
        outcome = λ s l t route. same-arriving usual_limit s l t route;
        report = λ s l t route. simp (same-arriving usual_limit s l t route, r.size);
      }

-- a whole message reads alike, whatever follows it
pub reads_more : (m x : List ℕ) → 23 + size_of m ≤ length m → ReadsAlike (m ++ x) m
reads_more m x w =
    let low : 8 ≤ length m = omega arith in
    let high : 8 ≤ length (drop 8 m) = rw (length-drop 8 m) (omega arith) in
    let four : 4 ≤ length (drop 19 m) = rw (length-drop 19 m) (omega arith) in
    let size : size_of (m ++ x) ≡ size_of m
    = rw (drop-append-le 19 m x (omega arith), take-append-le 4 (drop 19 m) x four) in
    let body : size_of m ≤ length (drop 23 m) = rw (length-drop 23 m) (omega arith) in
    let long : length m ≤ length (m ++ x) = rw (length-append m x) (omega arith) in
    record {
      number = take-append-le 16 m x (omega arith);
      halves = rw (drop-append-le 8 m x low, take-append-le 8 m x low, take-append-le 8 (drop 8 m) x high);
      kind = get_or-append m x 0 16 (omega arith);
      ttl = get_or-append m x 0 17 (omega arith);
      hops = get_or-append m x 0 18 (omega arith);
      size = size;
      payload = rw (size, drop-append-le 23 m x (omega arith), take-append-le (size_of m) (drop 23 m) x body);
      header = le-ltb (length (m ++ x)) 23 (omega arith) ∙ sym (le-ltb (length m) 23 (omega arith));
      whole = le-ltb (length (m ++ x)) (23 + size_of m) (omega arith) ∙ sym (le-ltb (length m) (23 + size_of m) w);
    }

pub taken-before : (m x : List ℕ) → Whole m → TakenAlike (m ++ x) m
taken-before m x w = taken-alike (m ++ x) m (reads_more m x w)

-- the message alone: all of the bytes are it and what follows
taken-alone : (m : List ℕ) → Whole m → TakenAlike (take (23 + size_of m) m) m
taken-alone m w =
    let n : ℕ = 23 + size_of m in
    let f : List ℕ = take n m in
    let back : f ++ drop n m ≡ m = take-append-drop n m in
    let long : length f ≡ n = length-take-le n m w in
    let four : 4 ≤ length (drop 19 f) = rw (length-drop 19 f, long) (omega arith) in
    let size : size_of (f ++ drop n m) ≡ size_of f
    = rw (drop-append-le 19 f (drop n m) (rw long (omega arith)), take-append-le 4 (drop 19 f) (drop n m) four) in
    let same : size_of m ≡ size_of f = ap size_of (sym back) ∙ size in
    let whole : 23 + size_of f ≤ length f = omega arith in
    let t : TakenAlike m f = subst (λ (z : List ℕ). TakenAlike z f) back (taken-before f (drop n m) whole) in
    record {
      outcome = λ s l t' route. sym (t.outcome s l t' route);
      report = λ s l t' route. sym (t.report s l t' route);
    }

pub blind : Blind
blind m w = record { more = λ x. taken-before m x w; less = taken-alone m w }

pub used_exact : UsedExact
used_exact s l m t route = refl

-- one type or the others
one_type : (b : Bool) (x y : Step) (t : Bool) (cs ds : List (Bool × ℕ))
    → x.answer ≡ first_of cs → y.answer ≡ first_of ((not t, 7) ∷ ds)
    → (pick_result b x y).answer ≡ first_of ((not (b || t), 7) ∷ cond b cs ds)
one_type true x y t cs ds e f = e
one_type false x y t cs ds e f = f

module _ (s : Station) (l : ℕ) (m : List ℕ) (t : Terms) (route : List ℕ) where
  abbrev pub after_early : List (Bool × ℕ)
  after_early = (unnamed m, 7) ∷ type_rules s l t.clock m route

  pub type-number : (arrived usual_limit s l m t route).answer ≡ first_of after_early
  unfolding by_type ping_step pong_step update_step update_answer query_step hit_step
  type-number =
      one_type (eqb (kind_of m) ping_type) _ _ _ _ _ (answer-taken _ _ _ _ refl)
      (one_type (eqb (kind_of m) pong_type) _ _ _ _ _ (answer-taken _ _ _ _ refl)
      (one_type (eqb (kind_of m) route_update) _ _ _ _ _ refl
      (one_type (eqb (kind_of m) query_type) _ _ _ _ _ (answer-taken _ _ _ _ refl)
      (one_type (eqb (kind_of m) hit_type) _ _ false _ [] (answer-taken _ _ _ _ refl) refl))))

pub numbers : Numbers
unfolding arriving early
numbers s l m t route =
    let cs : List (Bool × ℕ) = early_in s l m t.out (length route) in
    answer-refused (first_of cs) s route (arrived usual_limit s l m t route)
    ∙ ap (λ n. cond (eqb (first_of cs) 0) n (first_of cs)) (type-number s l m t route)
    ∙ sym (first_append cs (after_early s l m t route) refl)

-- what holds of the refusals of each type holds of a message's
either : (P : Bool × ℕ → Bool) (b : Bool) (cs ds : List (Bool × ℕ))
    → all P cs ≡ true → all P ds ≡ true → all P (cond b cs ds) ≡ true
either P true cs ds p q = p
either P false cs ds p q = q

module _ (s : Station) (l : ℕ) (m : List ℕ) (t : Terms) (route : List ℕ) where
  abbrev of_update : List (Bool × ℕ)
  of_update = update_rules s.room (held_at s l route) (ttl_of m) (hops_of m) (payload_of m)

  -- those of a hit need to meet it only where the message is one
  pub types_but_hits : (P : Bool × ℕ → Bool)
      → all P (ping_in s l t m) ≡ true → all P (pong_in m) ≡ true → all P of_update ≡ true
      → all P (query_in usual_limit s m) ≡ true → (eqb (kind_of m) hit_type ≡ true → all P (hit_in s m) ≡ true)
      → all P (type_rules s l t.clock m route) ≡ true
  types_but_hits P a b c d e =
      either P (eqb (kind_of m) ping_type) (ping_in s l t m) _ a
      (either P (eqb (kind_of m) pong_type) (pong_in m) _ b
      (either P (eqb (kind_of m) route_update) of_update _ c
      (either P (eqb (kind_of m) query_type) (query_in usual_limit s m) _ d
      (of_choice (λ cs. all P cs ≡ true) (eqb (kind_of m) hit_type) (hit_in s m) [] e (λ _. refl)))))

  pub types_all : (P : Bool × ℕ → Bool)
      → all P (ping_in s l t m) ≡ true → all P (pong_in m) ≡ true → all P of_update ≡ true
      → all P (query_in usual_limit s m) ≡ true → all P (hit_in s m) ≡ true
      → all P (type_rules s l t.clock m route) ≡ true
  types_all P a b c d e = types_but_hits P a b c d (λ _. e)

  -- they are none of 1 to 5
  pub types_sent : unused (first_of (after_early s l m t route)) ≡ false
  types_sent = none-unused (after_early s l m t route) (types_all (λ c. not (unused c.1)) refl refl refl refl refl)
