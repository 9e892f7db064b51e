-- The age is history: what is remembered is the last 512 taken, so a place among those is a count of calls.
-- Assumes nothing.
use Prim.Native.Nat.{ℕ, ◌<◌}
use mathlib.Core.Path.{◌≡◌, refl, ap, ◌∙◌}
use mathlib.Core.Bool.{true, false}
use mathlib.Core.Logic.Iff
use mathlib.Core.Logic.{◌↔◌}
use mathlib.Core.List.{List}
use lib.ListN.{take}
use Rattle.laws.proofs.Refusals.{clash}
use Rattle.protocol.specs.declared.Finding.{Finding}
use Rattle.protocol.specs.State.{Station, remembered, looked_up}
use Rattle.protocol.specs.Memory.{capacity, Number, number_in, Query, Found, Absent, At}
use Rattle.protocol.specs.Memory.{find, asker_of, lookup_of}
use Rattle.protocol.specs.Order.{in_order}
use Rattle.protocol.specs.Outcomes.{Outcome}
use Rattle.protocol.specs.Calls.{finding_by, looking_up}
use Rattle.protocol.specs.Runs.{Call, Open, Close, Message, Ask, Made, World, outcome_of, run, start}
use Rattle.protocol.specs.Demand2.{brought_number, Past, all_taken, last_taken, look_up, asker_now}
use Rattle.protocol.specs.Demand2.{hits_since, standing, MemoryIs}
use Rattle.protocol.proofs.Kept.{order-kept-by-lists}
use Rattle.protocol.proofs.Origins.{memory-history, same-look_up}
use Rattle.receiving.specs.Events.{Receiver, world_of, handle_all, begin}
use Rattle.receiving.proofs.Demand2.{events-memory}
use Rattle.ages.specs.LookUp.{RememberedAt, FindingIs}
use Rattle.ages.specs.HandedUp.{Tells, CallUp}
use Rattle.ages.specs.History.{Since, AgeIs, AgeIsHistory, EventsAge, UpIsHistory, EventsUpHistory}
use Rattle.ages.proofs.LookUp.{look-up-exactly}
use Rattle.ages.proofs.HandedUp.{handed-up, events-up}
use Rattle.ages.proofs.Positions.{asked_number, taken_number, Stands, stands-behind, Around, around, stands-take}
use Rattle.ages.proofs.Positions.{stands-map, place_iff}

-- Who asked: in a state in order the search's asker is told
asker-told : (f : Found) → (finding_by true (lookup_of f)).asker ≡ asker_of f
asker-told Absent = refl
asker-told (At n a h) = refl

-- A state in order whose memory is its log's
module _ (s : Station) (log : List Made) (base : List Query) (m : MemoryIs capacity s log base) (o : in_order s ≡ true)
    (x : Number) where
  abbrev f : Finding
  f = looking_up s x

  exactly : FindingIs s x f
  exactly = look-up-exactly s x

  -- it stands at place n of the remembered ones exactly if the log says so
  place-since : (n : ℕ) → Stands asked_number x (remembered s) n ↔ ((n < 512) × Since log base x n)
  place-since n =
      let ps : List Past = all_taken (λ l. false) log base in
      rw m.last
      (Iff.trans (stands-map asked_number (standing (hits_since log base)) x (take capacity ps) n)
      (Iff.trans (stands-take taken_number x capacity ps n) (Iff.and Iff.rfl (place_iff base x log n))))

  -- the same of a query that stands in the memory
  since-stands : (n a : ℕ) → RememberedAt s x n a → (n < 512) × Since log base x n
  since-stands n a r =
      (place-since n).0 (rw (r.split, ← r.count) (stands-behind asked_number x r.newer _ r.older refl))

  stands-since : (n : ℕ) → (n < 512) × Since log base x n → (a : ℕ) × RememberedAt s x n a
  stands-since n h =
      let v : Around asked_number x (remembered s) n
      = around asked_number x (remembered s) n ((place-since n).1 h) in
      let q : v.query ≡ record { number = x; asker = v.query.asker; hits = v.query.hits }
      = λ i. record { number = v.has i; asker = v.query.asker; hits = v.query.hits } in (
        v.query.asker,
        record {
          newer = v.newer;
          older = v.older;
          hits = v.query.hits;
          split = rw (← q) v.split;
          count = v.count;
        },
      )

  -- so what is told is what the log says
  told-since : (n : ℕ) → Tells s x n → (n < 512) × Since log base x n
  told-since n t =
      since-stands n f.asker
      ((exactly.found n f.asker).0 (λ i. record { answer = t.0 i; asker = f.asker; after = t.1 i })).1

  since-told : (n : ℕ) → (n < 512) × Since log base x n → Tells s x n
  since-told n h =
      let r = stands-since n h in
      let e = (exactly.found n r.0).1 (o, r.1) in
      (ap (λ (g : Finding). g.answer) e, ap (λ (g : Finding). g.after) e)

  absent-not : f.answer ≡ 10 → (n : ℕ) → n < 512 → Since log base x n → ⊥
  absent-not e n h r = let a = stands-since n (h, r) in (exactly.ten.0 e).1 n a.0 a.1

  not-absent : ((n : ℕ) → n < 512 → Since log base x n → ⊥) → f.answer ≡ 10
  not-absent none = exactly.ten.1 (o, λ n a r. let h = since-stands n a r in none n h.0 h.1)

  asker-is : f.asker ≡ asker_now (look_up (last_taken capacity log base) x)
  unfolding looking_up
  asker-is =
      ap (λ b. (finding_by b (looked_up s x)).asker) o ∙ asker-told (find (remembered s) x)
      ∙ ap (λ qs. asker_of (find qs x)) m.last
      ∙ (same-look_up (hits_since log base) (last_taken capacity log base) x).asker

age-is : (s : Station) (log : List Made) (base : List Query) → MemoryIs capacity s log base → in_order s ≡ true
    → AgeIs s log base
age-is s log base m o =
    record {
      found = λ x n. (told-since s log base m o x n, since-told s log base m o x n);
      absent = λ x. (absent-not s log base m o x, not-absent s log base m o x);
      asker = λ x. asker-is s log base m o x;
    }

-- every list of calls, and every list that brings bytes
pub age-is-history : AgeIsHistory
age-is-history s area cs z o =
    age-is (run (start s area) cs).state (run (start s area) cs).log (remembered s) (memory-history s area cs z o)
    (order-kept-by-lists (start s area) cs z o).order

pub events-age : EventsAge
events-age s area held es z o =
    let w : Receiver = handle_all (begin s area held) es in
    let k = events-memory s area held es z o in
    age-is w.state (world_of w).log (remembered s) k.memory k.kept.order

-- what a call hands up is what a look-up tells before it
up-since : (w : World) (c : Call) (o : Outcome) (base : List Query) → CallUp w c o → AgeIs w.state w.log base
    → o.age.known ≡ true → Since w.log base (brought_number c) o.age.after
up-since w (Open l) o base u v k = absurd (clash k (ap (λ a. a.known) u))
up-since w (Close l) o base u v k = absurd (clash k (ap (λ a. a.known) u))
up-since w (Message l m t a) o base u v k = ((v.found (number_in m) o.age.after).0 (u.from.is k)).1
up-since w (Ask number text t a) o base u v k = ((v.found (number_in number) o.age.after).0 (u.from.is k)).1

pub up-is-history : UpIsHistory
up-is-history s area cs c z o =
    let w : World = run (start s area) cs in
    up-since w c (outcome_of w c) (remembered s) (handed-up w c) (age-is-history s area cs z o)

pub events-up-history : EventsUpHistory
events-up-history s area held es e c z o q =
    let w : Receiver = handle_all (begin s area held) es in
    up-since (world_of w) c _ (remembered s) ((events-up w e).whole c q) (events-age s area held es z o)
