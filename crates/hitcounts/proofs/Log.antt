-- What the log says of a number: the last call that took it, the hits since, and where it came from.
-- Assumes nothing.
use Prim.Native.Nat.{ℕ, zero, suc, ◌+◌, ◌<◌}
use native.Mathlib.Omega.{arith}
use mathlib.Core.Path.{◌≡◌, refl, sym, ap, ◌∙◌}
use mathlib.Core.Bool.{Bool, true, false, cond, ◌||◌, or-false, or_assoc}
use mathlib.Core.Logic.{◌⊎◌, inl, inr}
use mathlib.Core.List.{List, [], ◌∷◌, ◌++◌, map}
use lib.ListN.{take}
use Rattle.laws.specs.Tests.{any}
use Rattle.laws.proofs.Refusals.{clash, and_fst, and_snd, or_fst, or_snd}
use Rattle.protocol.specs.Memory.{capacity, Number, Query, same_number}
use Rattle.protocol.specs.Runs.{Made}
use Rattle.protocol.specs.Demand2.{took, brought_number, brought_by, closed, got_hit, openings, Past, past, all_taken}
use Rattle.protocol.specs.Demand2.{hits_before, hits_since, Origin, origin_of, look_up, origin, taken_in}
use Rattle.protocol.proofs.Memory.{same_number_lem, number_itself}
use Rattle.protocol.proofs.Origins.{taken-took, taken-passed}
use Rattle.protocol.proofs.Back.{took-unclosed}
use Rattle.hitcounts.specs.History.{takes, hits_in, LastTaking, StoodBefore}
use Rattle.hitcounts.proofs.OneOf.{other_way}

-- the hits since the last call that took it
since-last : (base : List Query) (x : Number) (newer : List Made) (taking : Made) (older : List Made)
    → takes x taking ≡ true → any (takes x) newer ≡ false
    → hits_since (newer ++ (taking ∷ older)) base x ≡ hits_in x newer
since-last base x [] taking older t n = rw t
since-last base x (d ∷ ds) taking older t n =
    rw (
      or_fst (takes x d) (any (takes x) ds) n,
      since-last base x ds taking older t (or_snd (takes x d) (any (takes x) ds) n),
    )

takes_it : (x : Number) (d : Made) → took d.call d.outcome.answer ≡ true → brought_number d.call ≡ x
    → takes x d ≡ true
takes_it x d t e = rw (t, e) (number_itself x)

pub hits-last : (base : List Query) (x : Number) (log newer : List Made) → LastTaking log x newer
    → hits_since log base x ≡ hits_in x newer
hits-last base x log newer r =
    ap (λ ds. hits_since ds base x) r.split
    ∙ since-last base x newer r.taking r.older (takes_it x r.taking r.taken r.number) r.last

-- and where none took it
pub hits-none : (base : List Query) (x : Number) (log : List Made) → any (takes x) log ≡ false
    → hits_since log base x ≡ hits_before base x + hits_in x log
hits-none base x [] n = omega arith
hits-none base x (d ∷ ds) n =
    rw (or_fst (takes x d) (any (takes x) ds) n, hits-none base x ds (or_snd (takes x d) (any (takes x) ds) n))
    (one_more (got_hit d.call d.outcome.answer x) (hits_before base x) (hits_in x ds))
  where
    one_more : (b : Bool) (h n : ℕ) → cond b (suc (h + n)) (h + n) ≡ h + cond b (suc n) n
    one_more true h n = omega arith
    one_more false h n = refl

-- one of the two
pub last_or_none : (x : Number) (log : List Made)
    → ((newer : List Made) × LastTaking log x newer) ⊎ (any (takes x) log ≡ false)
last_or_none x [] = inr refl
last_or_none x (d ∷ ds) = go (takes x d) refl (last_or_none x ds)
  where
    go : (b : Bool) → takes x d ≡ b → ((newer : List Made) × LastTaking ds x newer) ⊎ (any (takes x) ds ≡ false)
        → ((newer : List Made) × LastTaking (d ∷ ds) x newer) ⊎ (any (takes x) (d ∷ ds) ≡ false)
    go true e r =
        let same : Bool = same_number x (brought_number d.call) in
        let t : Bool = took d.call d.outcome.answer in
        inl (
          [],
          record {
            taking = d;
            older = ds;
            split = refl;
            taken = and_fst t same e;
            number = sym (same_number_lem x (brought_number d.call) (and_snd t same e));
            last = refl;
          },
        )
    go false e (inl r) =
        let v : LastTaking ds x r.0 = r.1 in
        inl (
          d ∷ r.0,
          record {
            taking = v.taking;
            older = v.older;
            split = ap (◌∷◌ d) v.split;
            taken = v.taken;
            number = v.number;
            last = ap (λ b. b || any (takes x) r.0) e ∙ v.last;
          },
        )
    go false e (inr n) = inr (ap (λ b. b || any (takes x) ds) e ∙ n)

-- a number that no call took, and that was not remembered before, is not among those taken
abbrev pub named : Number → Past → Bool
named x p = same_number p.number x

base-unnamed : (x : Number) (shut : ℕ → Bool) (base : List Query) → any (λ q. same_number q.number x) base ≡ false
    → any (named x) (map (λ q. past shut q.number q.asker 0) base) ≡ false
base-unnamed x shut [] n = refl
base-unnamed x shut (q ∷ qs) n =
    let same : Query → Bool = λ q. same_number q.number x in
    rw (or_fst (same q) (any same qs) n) (base-unnamed x shut qs (or_snd (same q) (any same qs) n))

module _ (x : Number) (base : List Query) (d : Made) (ds : List Made) (n : takes x d ≡ false) (shut : ℕ → Bool)
    (rest : (shut : ℕ → Bool) → any (named x) (all_taken shut ds base) ≡ false) where
  unnamed-more : any (named x) (all_taken shut (d ∷ ds) base) ≡ false
  unnamed-more = go (took d.call d.outcome.answer) refl
    where
      go : (b : Bool) → took d.call d.outcome.answer ≡ b → any (named x) (all_taken shut (d ∷ ds) base) ≡ false
      go true t =
          rw (taken-took base d ds shut t, other_way x (brought_number d.call) (rw t at n)) (rest shut)
      go false t = rw (taken-passed base d ds shut t) (rest (λ l. shut l || closed d.call d.outcome.answer l))

pub unnamed : (x : Number) (base : List Query) → any (λ q. same_number q.number x) base ≡ false
    → (log : List Made) → any (takes x) log ≡ false → (shut : ℕ → Bool)
    → any (named x) (all_taken shut log base) ≡ false
unfolding all_taken
unnamed x base u [] n shut = base-unnamed x shut base u
unnamed x base u (d ∷ ds) n shut =
    unnamed-more x base d ds (or_fst (takes x d) (any (takes x) ds) n) shut
    (unnamed x base u ds (or_snd (takes x d) (any (takes x) ds) n))

-- a number that was remembered before, with its count then
pub stood-before : (x : Number) (base : List Query) → any (λ q. same_number q.number x) base ≡ true
    → StoodBefore base x (hits_before base x)
stood-before x [] e = absurd (clash e refl)
stood-before x (q ∷ qs) e = go (same_number x q.number) refl (stood-before x qs)
  where
    go : (b : Bool) → same_number x q.number ≡ b
        → (any (λ q. same_number q.number x) qs ≡ true → StoodBefore qs x (hits_before qs x))
        → StoodBefore (q ∷ qs) x (cond b q.hits (hits_before qs x))
    go true z h =
        record { query = q; stood = inl refl; number = sym (same_number_lem x q.number z); count = refl }
    go false z h =
        let r = h (rw (other_way x q.number z) at e) in
        record { query = r.query; stood = inr r.stood; number = r.number; count = r.count }

-- where the query of the number x came from: the line of the last call that took it, shut where it has closed since
abbrev pub closes_line : ℕ → Made → Bool
closes_line l d = closed d.call d.outcome.answer l

module _ (base : List Query) (x : Number) (taking : Made) (older : List Made)
    (taken : took taking.call taking.outcome.answer ≡ true) (number : brought_number taking.call ≡ x) where
  abbrev who : ℕ
  who = brought_by taking.call

  abbrev came : (ℕ → Bool) → List Made → Origin
  came shut newer = origin_of (past (λ l. shut l || any (closes_line l) newer) x who (openings who older))

  abbrev Came : List Made → Type 0
  Came newer =
      (n : ℕ) (shut : ℕ → Bool) → taken_in newer < n
      → look_up (take n (all_taken shut (newer ++ (taking ∷ older)) base)) x ≡ came shut newer

  came-last : Came []
  came-last zero shut h = absurd (omega arith)
  came-last (suc n) shut h =
      let itself : same_number (brought_number taking.call) x ≡ true
      = ap (λ (y : Number). same_number y x) number ∙ number_itself x in
      rw (taken-took base taking older shut taken, itself, or-false (shut who))

  module _ (d : Made) (ds : List Made) (other : takes x d ≡ false) (ih : Came ds) where
    came-took : took d.call d.outcome.answer ≡ true → (n : ℕ) (shut : ℕ → Bool) → taken_in ds + 1 < n
        → look_up (take n (all_taken shut (d ∷ (ds ++ (taking ∷ older))) base)) x ≡ came shut (d ∷ ds)
    came-took t zero shut h = absurd (omega arith)
    came-took t (suc n) shut h =
        rw (
          taken-took base d (ds ++ (taking ∷ older)) shut t,
          other_way x (brought_number d.call) (rw t at other),
          took-unclosed d.call d.outcome.answer who t,
        )
        (ih n shut (omega arith))

    came-more : Came (d ∷ ds)
    came-more n shut h = go (took d.call d.outcome.answer) refl
      where
        go : (b : Bool) → took d.call d.outcome.answer ≡ b
            → look_up (take n (all_taken shut (d ∷ (ds ++ (taking ∷ older))) base)) x ≡ came shut (d ∷ ds)
        go true t = came-took t n shut (let k = rw t at h in omega arith)
        go false t =
            rw (
              taken-passed base d (ds ++ (taking ∷ older)) shut t,
              ← or_assoc (shut who) (closes_line who d) (any (closes_line who) ds),
            )
            (ih n (λ l. shut l || closes_line l d) (rw t at h))

  came-by : (newer : List Made) → any (takes x) newer ≡ false → Came newer
  came-by [] n = came-last
  came-by (d ∷ ds) n =
      came-more d ds (or_fst (takes x d) (any (takes x) ds) n) (came-by ds (or_snd (takes x d) (any (takes x) ds) n))

pub origin-last : (base : List Query) (x : Number) (log newer : List Made) (r : LastTaking log x newer)
    → taken_in newer < 512
    → origin capacity log base x ≡ origin_of (past (λ l. any (closes_line l) newer) x (brought_by r.taking.call)
    (openings (brought_by r.taking.call) r.older))
origin-last base x log newer r h =
    ap (λ ds. origin capacity ds base x) r.split
    ∙ came-by base x r.taking r.older r.taken r.number newer r.last 512 (λ _. false) h
