-- However bytes are cut, a list of calls comes to its whole messages: each event is one call of document 01, held bytes
-- and shut marks aside, or none.
-- Assumes nothing.
use Prim.Native.Nat.{ℕ}
use native.Mathlib.Omega.{arith}
use mathlib.Core.Path.{◌≡◌, refl, sym, ap, ◌∙◌}
use mathlib.Core.Bool.{false}
use mathlib.Core.List.{List, [], ◌∷◌, ◌++◌, map}
use lib.Dec.{eqb}
use Rattle.protocol.specs.State.{Station}
use Rattle.protocol.specs.Outcomes.{Terms, Outcome, quiet}
use Rattle.protocol.specs.Runs.{Area, Call, World, lent, kept_area}
use Rattle.protocol.specs.Runs.{area_after, outcome_of, step, run}
use Rattle.protocol.proofs.Demand3.{kept-lent}
use Rattle.receiving.specs.Feeding.{Fed}
use Rattle.receiving.specs.Events.{
  HeldArea,
  AsLeft,
  Lent,
  Event,
  Plain,
  Feed,
  Receiver,
  call_log,
  made_by,
  world_of,
  lent_held,
  fed_by,
  whole_call,
  calls_of,
  reply_to,
  area_of,
  held_after,
  handle,
  handle_all,
  wholes,
  FairEvents,
}
use Rattle.receiving.specs.Bare.{bare, bare_outcome, bare_made, bare_world}
use Rattle.receiving.specs.Cutting.{Cutting, CutEither, AsideLeaves}
use Rattle.receiving.proofs.Bare.{bare-holding, bare-shut, bare-dropped, call-unread, step-bare}
use Rattle.receiving.proofs.ByCase.{typed-read}
use Rattle.receiving.proofs.Cases.{FeedCase, Refused, Waits, Over, Whole, feed-case, outcome, over-whole}

-- the parts of a fair list are fair
pub fair_both : (room : ℕ) (bs ds : List Event) → FairEvents room (bs ++ ds) → FairEvents room bs × FairEvents room ds
fair_both room [] ds f = (tt, f)
fair_both room (e ∷ bs) ds f = let p = fair_both room bs ds f.1 in ((f.0, p.0), p.1)

-- bytes of another line leave a line's held area
pub held-beside : (L l : ℕ) (w : Receiver) (bytes : List ℕ) (t : Terms) (a : Area) (h : HeldArea) → eqb L l ≡ false
    → held_after w (Feed l bytes t a h) L ≡ w.held L
held-beside L l w bytes t a AsLeft e = rw e
held-beside L l w bytes t a (Lent x) e = refl

-- what an event comes to: nothing, and then nothing is sent and all but held bytes is left; or one call, whose outcome
-- is its own, held bytes and shut marks aside
module _ (w : Receiver) where
  pub data Comes (e : Event) : Type 0 where
    None : calls_of w e ≡ [] → bare (reply_to w e).state ≡ bare w.state
        → area_of e w.area (reply_to w e).route ≡ w.area → (reply_to w e).sent ≡ [] → Comes e
    One : (c : Call) → calls_of w e ≡ c ∷ [] → bare_outcome (reply_to w e) ≡ bare_outcome (outcome_of (world_of w) c)
        → area_of e w.area (reply_to w e).route ≡ area_after c w.area (reply_to w e).route → Comes e

  module _ (l : ℕ) (bytes : List ℕ) (t : Terms) (a : Area) (h : HeldArea) where
    abbrev area : List ℕ
    area = lent a w.area

    abbrev held : List ℕ
    held = lent_held h (w.held l)

    abbrev whole : Call
    whole = whole_call w l bytes t a h

    same_area : (x : Fed Station) → fed_by w l bytes t a h ≡ x → x.result.route ≡ area
        → kept_area a w.area (fed_by w l bytes t a h).result.route ≡ w.area
    same_area x e r =
        ap (λ (x : Fed Station). kept_area a w.area x.result.route) e
        ∙ ap (kept_area a w.area) r
        ∙ kept-lent a w.area

    comes-by : FeedCase w.state l bytes held t area → Comes (Feed l bytes t a h)
    comes-by (Refused n f z u e) =
        None (rw (e, u)) (ap (λ (x : Fed Station). bare x.result.state) e) (same_area _ e refl)
        (ap (λ (x : Fed Station). x.result.sent) e)
    comes-by (Waits p f x e) =
        None (rw e) (ap (λ (x : Fed Station). bare x.result.state) e ∙ bare-holding _ l w.state)
        (same_area _ e refl) (ap (λ (x : Fed Station). x.result.sent) e)
    comes-by (Over p f x e) =
        One whole (rw e)
        (ap (λ (x : Fed Station). bare_outcome x.result) e
        ∙ ap (λ s. quiet 5 s area) (bare-shut l w.state)
        ∙ ap bare_outcome (sym (over-whole w.state l bytes held t area p x)))
        refl
    comes-by (Whole p f x b e) =
        let o : Outcome = outcome w.state l bytes held t area in
        One whole (rw (e, typed-read o.answer b.answer))
        (ap (λ (x : Fed Station). bare_outcome x.result) e ∙ bare-dropped l o)
        refl

  pub comes : (e : Event) → Comes e
  comes (Plain c) = One c refl refl refl
  comes (Feed l bytes t a h) =
      comes-by l bytes t a h (feed-case w.state l bytes (lent_held h (w.held l)) t (lent a w.area))

-- a world with one call more, which had this outcome
abbrev with_call : World → Call → Outcome → World
with_call w c o =
    record {
      state = o.state;
      area = area_after c w.area o.route;
      log = record { call = c; outcome = o } ∷ w.log;
    }

pub run_append : (cs : List Call) (w : World) (ds : List Call) → run w (cs ++ ds) ≡ run (run w cs) ds
run_append [] w ds = refl
run_append (c ∷ cs) w ds = run_append cs (step w c) ds

no_one : {A : Type 0} (x : A) → x ∷ [] ≡ [] → ⊥
no_one x e = let z : ◌≡◌ {A = ℕ} 0 1 = cc in omega arith

pub first_one : {A : Type 0} (x y : A) (ys : List A) → x ∷ [] ≡ y ∷ ys → x ≡ y
first_one x y ys e = cc

-- the outcome of the call that an event comes to, on the bare world
pub cut-reply : (w : Receiver) (e : Event) (c : Call) → calls_of w e ≡ c ∷ []
    → outcome_of (bare_world (world_of w)) c ≡ bare_outcome (reply_to w e)
cut-reply w e c q = by (comes w e)
  where
    by : Comes w e → outcome_of (bare_world (world_of w)) c ≡ bare_outcome (reply_to w e)
    by (None n b a s) = absurd (no_one c (sym q ∙ n))
    by (One d o b a) =
        call-unread (world_of w) c
        ∙ ap (λ x. bare_outcome (outcome_of (world_of w) x)) (first_one c d [] (sym q ∙ o))
        ∙ sym b

pub cut-event : (w : Receiver) (e : Event)
    → bare_world (world_of (handle w e)) ≡ run (bare_world (world_of w)) (calls_of w e)
cut-event w e = by (comes w e)
  where
    world : Station → List ℕ → List Call → World
    world s area cs =
        record { state = s; area = area; log = map bare_made (made_by (reply_to w e) cs ++ call_log w.log) }

    by : Comes w e → bare_world (world_of (handle w e)) ≡ run (bare_world (world_of w)) (calls_of w e)
    by (None n b a s) = (λ i. world (b i) (a i) (n i)) ∙ sym (ap (run (bare_world (world_of w))) n)
    by (One c o b a) =
        (λ i. world (bare (reply_to w e).state) (a i) (o i))
        ∙ ap (with_call (bare_world (world_of w)) c) b
        ∙ step-bare (world_of w) c
        ∙ sym (ap (run (bare_world (world_of w))) o)

pub cutting : Cutting
cutting w [] = refl
cutting w (e ∷ es) =
    cutting (handle w e) es
    ∙ ap (λ v. run v (wholes (handle w e) es)) (cut-event w e)
    ∙ sym (run_append (calls_of w e) (bare_world (world_of w)) (wholes (handle w e) es))

-- a list in two parts
pub handle_append : (w : Receiver) (es fs : List Event) → handle_all w (es ++ fs) ≡ handle_all (handle_all w es) fs
handle_append w [] fs = refl
handle_append w (e ∷ es) fs = handle_append (handle w e) es fs

pub cut-either : CutEither
cut-either w es es' e = cutting w es ∙ ap (run (bare_world (world_of w))) e ∙ sym (cutting w es')

pub aside-leaves : AsideLeaves
aside-leaves w e z = by (comes w e)
  where
    by : Comes w e
        → (bare (handle w e).state ≡ bare w.state) × ((handle w e).area ≡ w.area) × ((reply_to w e).sent ≡ [])
    by (None n b a s) = (b, a, s)
    by (One c o b a) = absurd (no_one c (sym o ∙ z))
