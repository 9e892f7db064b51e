-- Exactly when an update is answered 0, 14, 15 and 16, from the bytes and the updates before; and what this says of
-- runs.
-- Assumes nothing.
use Prim.Native.Nat.{ℕ, zero, suc, ◌+◌, ◌-◌, ◌^◌, ◌≤◌, ◌<◌}
use native.Mathlib.Omega.{arith}
use mathlib.Core.Path.{◌≡◌, refl, sym, ap, ap₂, ◌∙◌}
use mathlib.Core.Bool.{Bool, true, false, not, ◌&&◌, ◌||◌}
use mathlib.Core.Logic.{◌⊎◌, inl, inr, ⊎_elim}
use mathlib.Core.List.{List, [], ◌∷◌, ◌++◌, map}
use lib.Dec.{eqb, ltb, leb}
use lib.ListN.{length, get_or, drop, replicate, length-append, length-drop, get_or-append}
use lib.Seq.{get_or-drop, get_or-append_seam}
use lib.IntN.{pos, neg_ℤ, ◌+ℤ◌, sub_ℕ, +ℤ_assoc, pos-+ℤ-pos}
use borrow.Author.Tests.{ltb-true, ltb-false, lt-ltb, le-ltb, eqb-true, eqb-false, eq-eqb, ne_eqb, leb-true, leb-false}
use borrow.Author.Tests.{le-leb, not-true}
use Rattle.laws.specs.Tests.{any}
use Rattle.laws.proofs.Chunks.{failed}
use Rattle.laws.proofs.Refusals.{clash, and_fst, and_snd, and_intro, or_left, or_right, each, every_of}
use Rattle.tables.specs.Patch.{gain, loss, fits, all_fit}
use Rattle.tables.specs.Tables.{Held, lengths, good_length}
use Rattle.tables.specs.Updates.{length_in, infinity_in, place_in, size_in, bits_in, numbers_in, reset_tests, patch_tests}
use Rattle.tables.specs.Updates.{good_reset, good_patch, in_turn}
use Rattle.tables.specs.Updates.{in_range, update_answer, updated, reset_by}
use Rattle.tables.specs.History.{byte, length_bytes, carried, Update, messages, ended, under_way, length_named}
use Rattle.tables.specs.History.{infinity_named, sum_at}
use Rattle.tables.specs.Answers.{Filled, Sent, answer_to, after, history, MayReset, MayPatch, LikeFirst, InTurn}
use Rattle.tables.specs.Answers.{entry_then, outside, LeadsOut}
use Rattle.tables.specs.Answers.{Answers, EveryAnswer, EveryReset, Numbered, WholeRun, Runs, EveryRun}
use Rattle.tables.proofs.PatchFacts.{fits-exactly, fit-exactly}
use Rattle.tables.proofs.HistoryLaws.{FourOrEight, length-bytes, signed, carried-is, carried-length, patch-tests}
use Rattle.tables.proofs.HistoryLaws.{patch-width, signed_parts}
use Rattle.tables.proofs.HistoryLaws.{brought-more, Accounts, update, turn-ready, turn_of, turn_is, accounts}

-- ---- powers of two

-- 2 ^ b, 2 ^ (b + 1), .., k of them
abbrev pub powers : ℕ → ℕ → List ℕ
powers b zero = []
powers b (suc k) = 2 ^ b ∷ powers (suc b) k

the_lengths : lengths ≡ powers 2 15
the_lengths = refl

pub record Power (n b k : ℕ) : Type 0 where
  pub bits : ℕ
  pub least : b ≤ bits
  pub most : bits < b + k
  pub power : n ≡ 2 ^ bits

pub power_of : (n b k : ℕ) → any (eqb n) (powers b k) ≡ true → Power n b k
power_of n b zero e = absurd (clash e refl)
power_of n b (suc k) e = by (eqb n (2 ^ b)) refl (power_of n (suc b) k) e
  where
    by : (t : Bool) → eqb n (2 ^ b) ≡ t → (any (eqb n) (powers (suc b) k) ≡ true → Power n (suc b) k)
        → (t || any (eqb n) (powers (suc b) k)) ≡ true → Power n b (suc k)
    by true z on f = record { bits = b; least = omega arith; most = omega arith; power = eqb-true n (2 ^ b) z }
    by false z on f =
        let w = on f in
        record { bits = w.bits; least = omega (arith, w.least); most = omega (arith, w.most); power = w.power }

pub is-power : (n b k c : ℕ) → b ≤ c → c < b + k → n ≡ 2 ^ c → any (eqb n) (powers b k) ≡ true
is-power n b zero c l m e = absurd (omega arith)
is-power n b (suc k) c l m e = by (eqb c b) refl (λ l' m'. is-power n (suc b) k c l' m' e)
  where
    by : (t : Bool) → eqb c b ≡ t → (suc b ≤ c → c < suc b + k → any (eqb n) (powers (suc b) k) ≡ true)
        → (eqb n (2 ^ b) || any (eqb n) (powers (suc b) k)) ≡ true
    by true z on = or_left (eqb n (2 ^ b)) (any (eqb n) (powers (suc b) k))
        (eq-eqb n (2 ^ b) (e ∙ ap (λ x. 2 ^ x) (eqb-true c b z)))
    by false z on = let d = eqb-false c b z in or_right (eqb n (2 ^ b)) (any (eqb n) (powers (suc b) k))
        (on (omega arith) (omega arith))

-- ---- the fields of a RESET and of a PATCH

-- TTL 1 and Hops 0
abbrev near : Sent → Bool
near s = eqb s.ttl 1 && eqb s.hops 0

is-near : (s : Sent) → s.ttl ≡ 1 → s.hops ≡ 0 → near s ≡ true
is-near s t h = and_intro _ _ (eq-eqb s.ttl 1 t) (eq-eqb s.hops 0 h)

near-ttl : (s : Sent) → near s ≡ true → s.ttl ≡ 1
near-ttl s e = eqb-true s.ttl 1 (and_fst (eqb s.ttl 1) (eqb s.hops 0) e)

near-hops : (s : Sent) → near s ≡ true → s.hops ≡ 0
near-hops s e = eqb-true s.hops 0 (and_snd (eqb s.ttl 1) (eqb s.hops 0) e)

module _ (room : ℕ) (s : Sent) where
  abbrev p : List ℕ
  p = s.payload

  may-reset : near s ≡ true → good_reset room p ≡ true → MayReset room s
  unfolding good_reset good_length
  may-reset e g =
      let t = each (reset_tests room p) g in
      let w = power_of (length_in p) 2 15 t.1.1.0 in
      let i = t.1.1.1.1.0 in
      record {
        ttl = near-ttl s e;
        hops = near-hops s e;
        six = eqb-true (length p) 6 t.0;
        variant = eqb-true (byte p 0) 0 t.1.0;
        bits = w.bits;
        least = w.least;
        most = omega (arith, w.most);
        power = sym (length-bytes p) ∙ w.power;
        within = rw (length-bytes p) at (leb-true (length_in p) room t.1.1.1.0);
        above = leb-true 2 (infinity_in p) (and_fst (leb 2 (infinity_in p)) (leb (infinity_in p) 127) i);
        below = leb-true (infinity_in p) 127 (and_snd (leb 2 (infinity_in p)) (leb (infinity_in p) 127) i);
      }

  is-reset : MayReset room s → good_reset room p ≡ true
  unfolding good_reset good_length
  is-reset m =
      every_of (reset_tests room p) (
        eq-eqb (length p) 6 m.six,
        (
          eq-eqb (byte p 0) 0 m.variant,
          (
            is-power (length_in p) 2 15 m.bits m.least (omega (arith, m.most)) (length-bytes p ∙ m.power),
            (
              le-leb (length_in p) room (rw (length-bytes p) m.within),
              (and_intro _ _ (le-leb 2 (infinity_in p) m.above) (le-leb (infinity_in p) 127 m.below), tt),
            ),
          ),
        ),
      )

  may-patch : near s ≡ true → good_patch p ≡ true → MayPatch s
  may-patch e g =
      let t = patch-tests p g in
      record {
        ttl = near-ttl s e;
        hops = near-hops s e;
        five = leb-true 5 (length p) t.0;
        variant = eqb-true (byte p 0) 1 t.1.0;
        first = leb-true 1 (place_in p) t.1.1.0;
        last = leb-true (place_in p) (size_in p) t.1.1.1.0;
        plain = eqb-true (byte p 3) 0 t.1.1.1.1.0;
        width = patch-width p g;
      }

  is-patch : MayPatch s → good_patch p ≡ true
  unfolding good_patch
  is-patch m =
      every_of (patch_tests p) (
        le-leb 5 (length p) m.five,
        (
          eq-eqb (byte p 0) 1 m.variant,
          (
            le-leb 1 (place_in p) m.first,
            (
              le-leb (place_in p) (size_in p) m.last,
              (
                eq-eqb (byte p 3) 0 m.plain,
                (
                  ⊎_elim
                      (λ e. or_left (eqb (bits_in p) 4) (eqb (bits_in p) 8) (eq-eqb (bits_in p) 4 e))
                      (λ e. or_right (eqb (bits_in p) 4) (eqb (bits_in p) 8) (eq-eqb (bits_in p) 8 e))
                      m.width,
                  tt,
                ),
              ),
            ),
          ),
        ),
      )

-- ---- sums outside 1..Infinity

difference : (a d : ℕ) → pos a +ℤ neg_ℤ (pos d) ≡ sub_ℕ a d
difference a zero = rw (le-ltb a 0 (omega arith)) (ap pos (omega arith))
difference a (suc d) = refl

-- a less d, and the test for it
outside-less : (inf a d : ℕ) → outside inf (sub_ℕ a d) ≡ not (ltb d a && leb a (inf + d))
outside-less inf a d = by (ltb a d) refl (ltb d a) refl (leb a (inf + d)) refl
  where
    by : (x : Bool) → ltb a d ≡ x → (y : Bool) → ltb d a ≡ y → (z : Bool) → leb a (inf + d) ≡ z
        → outside inf (sub_ℕ a d) ≡ not (ltb d a && leb a (inf + d))
    by true x true y z w = let i = ltb-true a d x in let j = ltb-true d a y in absurd (omega arith)
    by true x false y z w = rw (x, y)
    by false x false y z w =
        let i = ltb-false d a y in
        let e : a - d ≡ 0 = omega arith in
        rw (x, y, e)
    by false x true y true w =
        let i = ltb-true d a y in
        let j = leb-true a (inf + d) w in
        rw (x, y, w, ne_eqb (a - d) 0 (λ e. omega arith), le-ltb inf (a - d) (omega arith))
    by false x true y false w =
        let i = ltb-true d a y in
        let j = leb-false a (inf + d) w in
        rw (x, y, w, lt-ltb inf (a - d) (omega arith)) (or_right (eqb (a - d) 0) true refl)

outside-fits : (bits inf v e : ℕ) → outside inf (pos e +ℤ signed bits v) ≡ not (fits bits inf v e)
outside-fits bits inf v e =
    ap (outside inf)
    (ap (λ z. pos e +ℤ z) (signed_parts bits v)
    ∙ sym (+ℤ_assoc (pos e) (pos (gain bits v)) (neg_ℤ (pos (loss bits v))))
    ∙ ap (λ z. z +ℤ neg_ℤ (pos (loss bits v))) (pos-+ℤ-pos e (gain bits v))
    ∙ difference (e + gain bits v) (loss bits v))
    ∙ outside-less inf (e + gain bits v) (loss bits v)

-- numbers that do not all fit: one that does not
record Unfit (bits inf : ℕ) (vs es : List ℕ) : Type 0 where
  at : ℕ
  below : at < length vs
  fails : fits bits inf (get_or vs at 0) (get_or es at 0) ≡ false

module _ (bits inf : ℕ) where
  unfit : (vs es : List ℕ) → length vs ≤ length es → all_fit bits inf vs es ≡ false → Unfit bits inf vs es
  unfolding all_fit
  unfit [] es l e = absurd (clash refl e)
  unfit (v ∷ vs) [] l e = absurd (omega arith)
  unfit (v ∷ vs) (x ∷ es) l e = by (fits bits inf v x) refl (unfit vs es (omega arith)) e
    where
      by : (t : Bool) → fits bits inf v x ≡ t → (all_fit bits inf vs es ≡ false → Unfit bits inf vs es)
          → (t && all_fit bits inf vs es) ≡ false → Unfit bits inf (v ∷ vs) (x ∷ es)
      by true z on f = let w = on f in record { at = suc w.at; below = omega (arith, w.below); fails = w.fails }
      by false z on f = record { at = 0; below = omega arith; fails = z }

  misfit : (vs es : List ℕ) (j : ℕ) → j < length vs → fits bits inf (get_or vs j 0) (get_or es j 0) ≡ false
      → all_fit bits inf vs es ≡ false
  misfit vs es j l e =
      failed (all_fit bits inf vs es)
      (λ a. clash ((fits-exactly bits inf (get_or vs j 0) (get_or es j 0)).1 (((fit-exactly bits inf vs es).0 a).sums j l)) e)

get_d_map : {A B : Type 0} (f : A → B) (xs : List A) (j : ℕ) (d : B) (c : A) → j < length xs
    → get_or (map f xs) j d ≡ f (get_or xs j c)
get_d_map f [] j d c l = absurd (omega arith)
get_d_map f (x ∷ xs) zero d c l = refl
get_d_map f (x ∷ xs) (suc j) d c l = get_d_map f xs j d c (omega arith)

-- a PATCH that is in turn: the rules' test of its numbers is that none leads out
module _ (h : Held) (us : List Update) (q : Accounts h us) (p : List ℕ) (w : FourOrEight (bits_in p))
    (turn : in_turn h p ≡ true) where
  abbrev at : ℕ
  at = h.table.nextentry

  t : InTurn us p
  t = turn_of h us q p w turn

  reached : at ≡ length (under_way us)
  reached = q.reached (turn-ready h us q p w turn)

  count : length (carried p) ≡ length (numbers_in p)
  count = carried-length p w

  ends-within : at + length (numbers_in p) ≤ length h.entries
  ends-within = rw (reached, ← count, q.long) t.within

  room-left : length (numbers_in p) ≤ length (drop at h.entries)
  room-left = simp length-drop (omega (arith, ends-within))

  -- the entry with its number, as the history has it
  then : (j : ℕ) → j < length (numbers_in p)
      → entry_then us p j ≡ pos (get_or (drop at h.entries) j 0) +ℤ signed (bits_in p) (get_or (numbers_in p) j 0)
  then j l =
      ap₂ (λ x y. x +ℤ y)
      (sym
      (ap pos (get_or-drop at h.entries j 0)
      ∙ q.totals (at + j) (omega (arith, ends-within))
      ∙ ap₂ (λ i k. pos i +ℤ sum_at us (k + j)) q.infinity reached))
      (ap (λ c. get_or c j (pos 0)) (carried-is p w) ∙ get_d_map (signed (bits_in p)) (numbers_in p) j (pos 0) 0 l)

  -- the rules' test of the j-th number
  abbrev fit : ℕ → Bool
  fit j = fits (bits_in p) h.table.infinity (get_or (numbers_in p) j 0) (get_or (drop at h.entries) j 0)

  out_at : (j : ℕ) → j < length (numbers_in p) → outside (infinity_named us) (entry_then us p j) ≡ not (fit j)
  out_at j l =
      ap₂ outside (sym q.infinity) (then j l)
      ∙ outside-fits (bits_in p) h.table.infinity (get_or (numbers_in p) j 0) (get_or (drop at h.entries) j 0)

  leads_out : in_range h p ≡ false → LeadsOut us p
  unfolding in_range
  leads_out e =
      let u = unfit (bits_in p) h.table.infinity (numbers_in p) (drop at h.entries) room-left e in
      (u.at, rw count u.below, out_at u.at u.below ∙ ap not u.fails)

  is-out : LeadsOut us p → in_range h p ≡ false
  unfolding in_range
  is-out o =
      let l : o.0 < length (numbers_in p) = rw count at o.1 in
      misfit (bits_in p) h.table.infinity (numbers_in p) (drop at h.entries) o.0 l
      (not-true (fit o.0) (sym (out_at o.0 l) ∙ o.2))

-- ---- the five ways of an answer, each with what decides it

module _ (room : ℕ) (h : Held) (us : List Update) (q : Accounts h us) (s : Sent) where
  abbrev n : ℕ
  n = answer_to room h s

  data Way : Type 0 where
    malformed : n ≡ 14 → ((MayReset room s ⊎ MayPatch s) → ⊥) → Way
    reset : n ≡ 0 → MayReset room s → Way
    untimely : n ≡ 15 → MayPatch s → (InTurn us s.payload → ⊥) → Way
    leading : n ≡ 16 → MayPatch s → InTurn us s.payload → LeadsOut us s.payload → Way
    patched : n ≡ 0 → MayPatch s → InTurn us s.payload → (LeadsOut us s.payload → ⊥) → Way

  far-way : near s ≡ false → Way
  unfolding update_answer
  far-way e =
      malformed (rw e)
      (⊎_elim (λ m. clash (is-near s m.ttl m.hops) e) (λ m. clash (is-near s m.ttl m.hops) e))

  other_way : near s ≡ true → good_reset room s.payload ≡ false → good_patch s.payload ≡ false → Way
  unfolding update_answer
  other_way e r g = malformed (rw (e, r, g)) (⊎_elim (λ m. clash (is-reset room s m) r)
      (λ m. clash (is-patch room s m) g))

  reset-way : near s ≡ true → good_reset room s.payload ≡ true → Way
  unfolding update_answer
  reset-way e r = let m = may-reset room s e r in reset (rw (e, r, m.variant)) m

  module _ (e : near s ≡ true) (r : good_reset room s.payload ≡ false) (g : good_patch s.payload ≡ true) where
    fields : MayPatch s
    fields = may-patch room s e g

    turn-way : in_turn h s.payload ≡ false → Way
    unfolding update_answer
    turn-way u = untimely (rw (e, r, g, fields.variant, u)) fields
        (λ t. clash (turn_is h us q s.payload fields.width t) u)

    range-way : in_turn h s.payload ≡ true → in_range h s.payload ≡ false → Way
    unfolding update_answer
    range-way u x =
        leading (rw (e, r, g, fields.variant, u, x)) fields
        (turn_of h us q s.payload fields.width u)
        (leads_out h us q s.payload fields.width u x)

    patch-way : in_turn h s.payload ≡ true → in_range h s.payload ≡ true → Way
    unfolding update_answer
    patch-way u x =
        patched (rw (e, r, g, fields.variant, u, x)) fields
        (turn_of h us q s.payload fields.width u)
        (λ o. clash x (is-out h us q s.payload fields.width u o))

  way : Way
  way =
      by
      (near s) refl
      (good_reset room s.payload) refl
      (good_patch s.payload) refl
      (in_turn h s.payload) refl
      (in_range h s.payload) refl
    where
      by : (a : Bool) → near s ≡ a → (b : Bool) → good_reset room s.payload ≡ b → (c : Bool)
          → good_patch s.payload ≡ c
          → (d : Bool) → in_turn h s.payload ≡ d → (f : Bool) → in_range h s.payload ≡ f → Way
      by false e b r c g d u f x = far-way e
      by true e true r c g d u f x = reset-way e r
      by true e false r false g d u f x = other_way e r g
      by true e false r true g false u f x = turn-way e r g u
      by true e false r true g true u false x = range-way e r g u x
      by true e false r true g true u true x = patch-way e r g u x

  -- no update is both
  not-both : MayReset room s → MayPatch s → ⊥
  not-both a b = omega (arith, a.variant, b.variant)

  answers_by : Way → Answers room us s n
  answers_by (malformed e never) =
      record {
        done = (λ z. absurd (omega arith), λ x. absurd (never (⊎_elim (λ r. inl r) (λ y. inr y.0) x)));
        fourteen = (λ z. never, λ x. e);
        fifteen = (λ z. absurd (omega arith), λ x. absurd (never (inr x.0)));
        sixteen = (λ z. absurd (omega arith), λ x. absurd (never (inr x.0)));
      }
  answers_by (reset e r) =
      record {
        done = (λ z. inl r, λ x. e);
        fourteen = (λ z. absurd (omega arith), λ x. absurd (x (inl r)));
        fifteen = (λ z. absurd (omega arith), λ x. absurd (not-both r x.0));
        sixteen = (λ z. absurd (omega arith), λ x. absurd (not-both r x.0));
      }
  answers_by (untimely e m never) =
      record {
        done = (λ z. absurd (omega arith), λ x. absurd (⊎_elim (λ r. not-both r m) (λ y. never y.1) x));
        fourteen = (λ z. absurd (omega arith), λ x. absurd (x (inr m)));
        fifteen = (λ z. (m, never), λ x. e);
        sixteen = (λ z. absurd (omega arith), λ x. absurd (never x.1));
      }
  answers_by (leading e m t o) =
      record {
        done = (λ z. absurd (omega arith), λ x. absurd (⊎_elim (λ r. not-both r m) (λ y. y.2 o) x));
        fourteen = (λ z. absurd (omega arith), λ x. absurd (x (inr m)));
        fifteen = (λ z. absurd (omega arith), λ x. absurd (x.1 t));
        sixteen = (λ z. (m, t, o), λ x. e);
      }
  answers_by (patched e m t never) =
      record {
        done = (λ z. inr (m, t, never), λ x. e);
        fourteen = (λ z. absurd (omega arith), λ x. absurd (x (inr m)));
        fifteen = (λ z. absurd (omega arith), λ x. absurd (x.1 t));
        sixteen = (λ z. absurd (omega arith), λ x. absurd (never x.2));
      }

  -- the answer of any table that is what the updates before come to
  pub answers : Answers room us s n
  answers = answers_by way

pub every-answer : EveryAnswer
every-answer room ss s = answers room (after room ss) (history room ss) (accounts room ss) s

-- ---- what an accepted RESET makes

reset-answer : (room : ℕ) (h : Held) (s : Sent) → MayReset room s → answer_to room h s ≡ 0
unfolding update_answer
reset-answer room h s m = rw (is-near s m.ttl m.hops, is-reset room s m, m.variant) refl

reset-filled : (room : ℕ) (h : Held) (s : Sent) → answer_to room h s ≡ 0 → byte s.payload 0 ≡ 0
    → Filled s.payload (updated room h s.ttl s.hops s.payload)
unfolding updated reset_by
reset-filled room h s e v =
    let n : length_in s.payload ≡ length_bytes s.payload = length-bytes s.payload in
    rw (e, v)
    (record {
      entries = ap (λ n. replicate n (byte s.payload 5)) n;
      long = n;
      infinity = refl;
      mark = refl;
      place = refl;
      next = refl;
    })

pub every-reset : EveryReset
every-reset room h s m = let e = reset-answer room h s m in (e, reset-filled room h s e m.variant)

-- ---- runs

-- the first message stays the first
like-more : (ms : List (List ℕ)) (p m : List ℕ) → 0 < length ms → LikeFirst ms m → LikeFirst (ms ++ (p ∷ [])) m
like-more [] p m l k = absurd (omega arith)
like-more (x ∷ ms) p m l k = k

like-own : (ms : List (List ℕ)) (p : List ℕ) → LikeFirst ms p → LikeFirst (ms ++ (p ∷ [])) p
like-own [] p k = (refl, refl)
like-own (x ∷ ms) p k = k

numbered_more : (ms : List (List ℕ)) (p : List ℕ) → Numbered ms → byte p 1 ≡ length ms + 1 → LikeFirst ms p
    → Numbered (ms ++ (p ∷ []))
numbered_more ms p k e l i b = by (ltb i (length ms)) refl
  where
    by : (t : Bool) → ltb i (length ms) ≡ t
        → (byte (get_or (ms ++ (p ∷ [])) i []) 1 ≡ i + 1) × LikeFirst (ms ++ (p ∷ [])) (get_or (ms ++ (p ∷ [])) i [])
    by true z =
        let c = ltb-true i (length ms) z in
        rw (get_or-append ms (p ∷ []) [] i c) ((k i c).0, like-more ms p (get_or ms i []) (omega arith) (k i c).1)
    by false z =
        let c = ltb-false i (length ms) z in
        let d : i ≡ length ms = omega (arith, rw length-append at b) in
        rw (d, get_or-append_seam ms p [] []) (e, like-own ms p l)

size-first : (ms : List (List ℕ)) (p : List ℕ) → LikeFirst ms p → byte (get_or (ms ++ (p ∷ [])) 0 []) 2 ≡ byte p 2
size-first [] p l = refl
size-first (m ∷ ms) p l = sym l.0

whole-more : (long : ℕ) (ms : List (List ℕ)) (rs : List (List (List ℕ))) → WholeRun long ms
    → ((r : ℕ) → r < length rs → WholeRun long (get_or rs r []))
    → (r : ℕ) → r < length (ms ∷ rs) → WholeRun long (get_or (ms ∷ rs) r [])
whole-more long ms rs w k zero l = w
whole-more long ms rs w k (suc r) l = k r (omega arith)

-- a run that a PATCH in turn ends
run_ends : (us : List Update) (p : List ℕ) → Numbered (messages us) → InTurn us p → byte p 1 ≡ byte p 2
    → WholeRun (length_named us) (messages us ++ (p ∷ []))
run_ends us p k t e =
    record {
      numbered = numbered_more (messages us) p k t.next t.alike;
      sized = size-first (messages us) p t.alike ∙ sym e ∙ t.next ∙ sym (length-append (messages us) (p ∷ []));
      entries = ap length (brought-more (messages us) p) ∙ length-append (under_way us) (carried p) ∙ t.whole e;
    }

module _ (us : List Update) (k : Runs us) (p : List ℕ) where
  runs-refused : (n : ℕ) → (n ≡ 0 → ⊥) → Runs (update p n ∷ us)
  runs-refused n z = let a = ne_eqb n 0 z in record { begun = rw a k.begun; whole = rw a k.whole }

  runs-reset : byte p 0 ≡ 0 → Runs (update p 0 ∷ us)
  runs-reset v = record { begun = rw v (λ i l. absurd (omega arith)); whole = rw v (λ r l. absurd (omega arith)) }

  runs-patched : byte p 0 ≡ 1 → InTurn us p → Runs (update p 0 ∷ us)
  runs-patched v t = go (eqb (byte p 1) (byte p 2)) refl
    where
      go : (b : Bool) → eqb (byte p 1) (byte p 2) ≡ b → Runs (update p 0 ∷ us)
      go true e =
          record {
            begun = simp (v, e) (λ i l. absurd (omega arith));
            whole =
                simp (v, e)
                (whole-more (length_named us) (messages us ++ (p ∷ [])) (ended us)
                (run_ends us p k.begun t (eqb-true (byte p 1) (byte p 2) e))
                k.whole);
          }
      go false e =
          record {
            begun = simp (v, e) (numbered_more (messages us) p k.begun t.next t.alike);
            whole = simp (v, e) k.whole;
          }

  runs_by : (room : ℕ) (h : Held) (q : Accounts h us) (s : Sent) → s.payload ≡ p → Way room h us q s
      → Runs (update p (answer_to room h s) ∷ us)
  runs_by room h q s o (malformed e never) = runs-refused (answer_to room h s) (λ z. omega arith)
  runs_by room h q s o (reset e r) = rw e (runs-reset (rw o at r.variant))
  runs_by room h q s o (untimely e m never) = runs-refused (answer_to room h s) (λ z. omega arith)
  runs_by room h q s o (leading e m t x) = runs-refused (answer_to room h s) (λ z. omega arith)
  runs_by room h q s o (patched e m t never) = rw e (runs-patched (rw o at m.variant) (rw o at t))

pub every-run : EveryRun
every-run room [] = record { begun = λ i l. absurd (omega arith); whole = λ r l. absurd (omega arith) }
every-run room (s ∷ ss) =
    runs_by (history room ss) (every-run room ss) s.payload room (after room ss) (accounts room ss) s refl
    (way room (after room ss) (history room ss) (accounts room ss) s)
