-- What a list of updates comes to: the closed forms of specs/History, and the table that the rules make of the same
-- updates.
-- Assumes nothing.
use Prim.Native.Nat.{ℕ, zero, suc, ◌+◌, ◌-◌, ◌^◌, ◌≤◌, ◌<◌, zero-le}
use native.Mathlib.Omega.{arith}
use mathlib.Core.Path.{◌≡◌, refl, sym, ap, ap₂, ◌∙◌, subst}
use mathlib.Core.Bool.{Bool, true, false, cond, not, ◌&&◌, ◌||◌, and-false}
use mathlib.Core.Logic.{◌⊎◌, inl, inr, ⊎_elim}
use mathlib.Core.List.{List, [], ◌∷◌, ◌++◌, map, append_assoc, append-nil}
use lib.Dec.{eqb, ltb, leb-suc-suc}
use lib.ListN.{length, get_or, take, drop, length-append, length-map, length-replicate, get_or-replicate}
use lib.IntN.{ℤ, pos, neg_ℤ, ◌+ℤ◌, +ℤ_assoc, +ℤ_comm, +ℤ_idl, +ℤ_idr, +ℤ_invr, pos-+ℤ-pos}
use borrow.Author.Tests.{lt-ltb, le-ltb, eqb-true, eq-eqb, ne_eqb, leb-true, le-leb, not-true}
use Rattle.laws.specs.Tests.{any}
use Rattle.laws.proofs.Refusals.{clash, and_fst, and_snd, and_intro, Each, each, every_of}
use Rattle.tables.specs.declared.Table.{Table}
use Rattle.tables.specs.Patch.{numbers, gain, loss, sum_of, fits, added, all_fit}
use Rattle.tables.specs.Tables.{Held, ready, running, settled}
use Rattle.tables.specs.Updates.{length_in, infinity_in, place_in, size_in, bits_in, numbers_in, is_last, reset_tests}
use Rattle.tables.specs.Updates.{patch_tests, turn_tests, good_reset}
use Rattle.tables.specs.Updates.{good_patch, in_turn, in_range, update_answer, updated, reset_by, onward, moved_on}
use Rattle.tables.specs.Updates.{patch_by, broken_by}
use Rattle.tables.specs.History.{byte, length_bytes, halves, carried, Update, is_reset, messages, brought, under_way}
use Rattle.tables.specs.History.{whole_runs, length_named}
use Rattle.tables.specs.History.{infinity_named, total, sum_at, before_run, spoiled, speaks, mark_after}
use Rattle.tables.specs.Answers.{Sent, no_held, after, history, LikeFirst, InTurn, EveryTable}
use Rattle.tables.proofs.TestLaws.{either}
use Rattle.tables.proofs.PatchFacts.{fits-exactly}
use Rattle.tables.proofs.AnswerLaws.{ways}
use Rattle.tables.proofs.KeepLaws.{moved_length, moved-infinity, patched-length}

-- ---- the bytes as the rules read them

-- the length of a RESET
pub length-bytes : (p : List ℕ) → length_in p ≡ length_bytes p
length-bytes [] = refl
length-bytes (a ∷ []) = refl
length-bytes (a ∷ b ∷ []) = omega arith
length-bytes (a ∷ b ∷ c ∷ []) = omega arith
length-bytes (a ∷ b ∷ c ∷ d ∷ []) = omega arith
length-bytes (a ∷ b ∷ c ∷ d ∷ e ∷ r) = omega arith

-- a raw number of `bits` bits in two's complement
abbrev pub signed : ℕ → ℕ → ℤ
signed bits v = cond (ltb v (2 ^ (bits - 1))) (pos v) (neg_ℤ (pos (2 ^ bits - v)))

numbers-four : (d : List ℕ) → halves d ≡ map (signed 4) (numbers 4 d)
unfolding numbers
numbers-four [] = refl
numbers-four (b ∷ d) = rw (numbers-four d)

numbers-eight : (d : List ℕ) → map (signed 8) d ≡ map (signed 8) (numbers 8 d)
unfolding numbers
numbers-eight [] = refl
numbers-eight (b ∷ d) = rw (numbers-eight d)

-- the numbers of a PATCH, where its bits are 4 or 8
abbrev pub FourOrEight : ℕ → Type 0
FourOrEight bits = (bits ≡ 4) ⊎ (bits ≡ 8)

pub carried-is : (p : List ℕ) → FourOrEight (bits_in p) → carried p ≡ map (signed (bits_in p)) (numbers_in p)
unfolding carried
carried-is p (inl e) = rw e (numbers-four (drop 5 p))
carried-is p (inr e) = rw e (numbers-eight (drop 5 p))

pub carried-length : (p : List ℕ) → FourOrEight (bits_in p) → length (carried p) ≡ length (numbers_in p)
carried-length p w = ap length (carried-is p w) ∙ length-map (numbers_in p) (signed (bits_in p))

-- the fields of a PATCH that is as it must be
pub patch-tests : (p : List ℕ) → good_patch p ≡ true → Each (patch_tests p)
unfolding good_patch
patch-tests p g = each (patch_tests p) g

pub patch-width : (p : List ℕ) → good_patch p ≡ true → FourOrEight (bits_in p)
patch-width p g =
    ⊎_elim
    (λ e. inl (eqb-true (bits_in p) 4 e))
    (λ e. inr (eqb-true (bits_in p) 8 e))
    (either (eqb (bits_in p) 4) (eqb (bits_in p) 8) (patch-tests p g).1.1.1.1.1.0)

-- ---- sums

-- a raw number is its gain less its loss, and adding it to an entry is the sum of the two where that does not fall
-- below 0
pub signed_parts : (bits v : ℕ) → signed bits v ≡ pos (gain bits v) +ℤ neg_ℤ (pos (loss bits v))
signed_parts bits v = parts (ltb v (2 ^ (bits - 1))) (2 ^ bits - v)
  where
    parts : (below : Bool) (d : ℕ) → cond below (pos v) (neg_ℤ (pos d)) ≡ pos (cond below v 0) +ℤ neg_ℤ
        (pos (cond below 0 d))
    parts true d = sym (+ℤ_idr (pos v))
    parts false d = sym (+ℤ_idl (neg_ℤ (pos d)))

pub shifted : (e g d : ℕ) → d ≤ e + g → pos (e + g - d) ≡ pos e +ℤ (pos g +ℤ neg_ℤ (pos d))
shifted e g d h =
    let back : e + g - d + d ≡ e + g = omega arith in
    sym (+ℤ_idr (pos (e + g - d)))
    ∙ ap (λ z. pos (e + g - d) +ℤ z) (sym (+ℤ_invr (pos d)))
    ∙ sym (+ℤ_assoc (pos (e + g - d)) (pos d) (neg_ℤ (pos d)))
    ∙ ap (λ z. z +ℤ neg_ℤ (pos d)) (pos-+ℤ-pos (e + g - d) d ∙ ap pos back ∙ sym (pos-+ℤ-pos e g))
    ∙ +ℤ_assoc (pos e) (pos g) (neg_ℤ (pos d))

sum-signed : (bits inf v e : ℕ) → fits bits inf v e ≡ true → pos (sum_of bits v e) ≡ pos e +ℤ signed bits v
sum-signed bits inf v e f =
    let low : loss bits v < e + gain bits v = ((fits-exactly bits inf v e).0 f).low in
    shifted e (gain bits v) (loss bits v) (omega arith) ∙ ap (λ z. pos e +ℤ z) (sym (signed_parts bits v))

-- the numbers rs for the entries from `from` on: what they give to the entry j
abbrev given : List ℤ → ℕ → ℕ → ℤ
given rs from j = cond (ltb j from) (pos 0) (get_or rs (j - from) (pos 0))

-- numbers added from the entry `from` on: each entry after is the entry before plus its number
added-each : (bits inf : ℕ) (vs es : List ℕ) (j : ℕ) → all_fit bits inf vs es ≡ true → j < length es
    → pos (get_or (added bits vs es) j 0) ≡ pos (get_or es j 0) +ℤ get_or (map (signed bits) vs) j (pos 0)
unfolding added all_fit
added-each bits inf [] es j f l = sym (+ℤ_idr (pos (get_or es j 0)))
added-each bits inf (v ∷ vs) [] j f l = absurd (omega arith)
added-each bits inf (v ∷ vs) (e ∷ es) zero f l = sum-signed bits inf v e
    (and_fst (fits bits inf v e) (all_fit bits inf vs es) f)
added-each bits inf (v ∷ vs) (e ∷ es) (suc j) f l = added-each bits inf vs es j
    (and_snd (fits bits inf v e) (all_fit bits inf vs es) f) (omega arith)

added-from : (from bits inf : ℕ) (vs es : List ℕ) (j : ℕ) → all_fit bits inf vs (drop from es) ≡ true → j < length es
    → pos (get_or (take from es ++ added bits vs (drop from es)) j 0) ≡ pos (get_or es j 0) +ℤ given
    (map (signed bits) vs) from j
added-from zero bits inf vs es j f l =
    let e : j - 0 ≡ j = omega arith in
    rw (le-ltb j 0 zero-le, e) (added-each bits inf vs es j f l)
added-from (suc from) bits inf vs [] j f l = absurd (omega arith)
added-from (suc from) bits inf vs (x ∷ xs) zero f l = rw (lt-ltb 0 (suc from) (omega arith)) (sym (+ℤ_idr (pos x)))
added-from (suc from) bits inf vs (x ∷ xs) (suc j) f l =
    let e : suc j - suc from ≡ j - from = omega arith in
    rw (leb-suc-suc (suc j) from, e) (added-from from bits inf vs xs j f (omega arith))

-- a run that goes on: the j-th number of all is that of the first part and what the second gives behind it
joined_at : (rs ss : List ℤ) (j : ℕ) → get_or (rs ++ ss) j (pos 0) ≡ get_or rs j (pos 0) +ℤ given ss (length rs) j
joined_at [] ss j =
    let e : j - 0 ≡ j = omega arith in
    rw (le-ltb j 0 zero-le, e) (sym (+ℤ_idl (get_or ss j (pos 0))))
joined_at (r ∷ rs) ss zero = rw (lt-ltb 0 (suc (length rs)) (omega arith)) (sym (+ℤ_idr r))
joined_at (r ∷ rs) ss (suc j) =
    let e : suc j - suc (length rs) ≡ j - length rs = omega arith in
    rw (leb-suc-suc (suc j) (length rs), e) (joined_at rs ss j)

-- a message more
pub brought-more : (ms : List (List ℕ)) (p : List ℕ) → brought (ms ++ (p ∷ [])) ≡ brought ms ++ carried p
brought-more [] p = append-nil (carried p)
brought-more (m ∷ ms) p = ap (λ r. carried m ++ r) (brought-more ms p)
    ∙ sym (append_assoc (carried m) (brought ms) (carried p))

-- ---- the account

-- inside a run a table is quiet, whether or not one has ended before
inside-quiet : (b : Bool) → false ≡ not (b || true)
inside-quiet true = refl
inside-quiet false = refl

-- the table is inside a run exactly where there are messages of one, and knows the first one's size and bits
abbrev pub AfterFirst : List (List ℕ) → Table → Type 0
AfterFirst [] t = eqb t.mark running ≡ false
AfterFirst (m ∷ ms) t = (eqb t.mark running ≡ true) × (t.runsize ≡ byte m 2) × (t.runbits ≡ byte m 4)

-- a table with its entries is what these updates come to
pub record Accounts (h : Held) (us : List Update) : Type 0 where
  pub long : length h.entries ≡ length_named us
  pub known : h.table.length ≡ length_named us
  pub infinity : h.table.infinity ≡ infinity_named us
  pub patchable : ready h.table.mark ≡ (any is_reset us && not (spoiled us))
  pub mark : h.table.mark ≡ mark_after us
  pub speaking : eqb h.table.mark settled ≡ speaks us
  pub reached : ready h.table.mark ≡ true → h.table.nextentry ≡ length (under_way us)
  pub placed : ready h.table.mark ≡ true → h.table.nextplace ≡ length (messages us) + 1
  pub first : ready h.table.mark ≡ true → AfterFirst (messages us) h.table
  pub totals : (j : ℕ) → j < length h.entries → pos (get_or h.entries j 0) ≡ pos h.table.infinity +ℤ sum_at us j

pub nothing_yet : Accounts no_held []
nothing_yet =
    record {
      long = refl;
      known = refl;
      infinity = refl;
      patchable = refl;
      mark = refl;
      speaking = refl;
      reached = λ _. refl;
      placed = λ r. absurd (clash r refl);
      first = λ _. refl;
      totals = λ j h. absurd (omega arith);
    }

abbrev pub update : List ℕ → ℕ → Update
update p n = record { payload = p; answer = n }

-- the test of size and bits says that they are the first one's
like-first : (ms : List (List ℕ)) (t : Table) (p : List ℕ) → AfterFirst ms t
    → (not (eqb t.mark running) || (eqb (size_in p) t.runsize && eqb (bits_in p) t.runbits)) ≡ true
    → LikeFirst ms p
like-first [] t p a e = tt
like-first (m ∷ ms) t p a e =
    let f : (eqb (size_in p) t.runsize && eqb (bits_in p) t.runbits) ≡ true = rw a.0 at e in (
      eqb-true (size_in p) t.runsize (and_fst (eqb (size_in p) t.runsize) (eqb (bits_in p) t.runbits) f) ∙ a.1,
      eqb-true (bits_in p) t.runbits (and_snd (eqb (size_in p) t.runsize) (eqb (bits_in p) t.runbits) f) ∙ a.2,
    )

first-like : (ms : List (List ℕ)) (t : Table) (p : List ℕ) → AfterFirst ms t → LikeFirst ms p
    → (not (eqb t.mark running) || (eqb (size_in p) t.runsize && eqb (bits_in p) t.runbits)) ≡ true
first-like [] t p a l = rw a
first-like (m ∷ ms) t p a l =
    rw a.0 (and_intro _ _ (eq-eqb (size_in p) t.runsize (l.0 ∙ sym a.1))
    (eq-eqb (bits_in p) t.runbits (l.1 ∙ sym a.2)))

after_first : (ms : List (List ℕ)) (t : Table) (p : List ℕ) → LikeFirst ms p → AfterFirst (ms ++ (p ∷ [])) (onward t p)
after_first [] t p l = (refl, refl, refl)
after_first (m ∷ ms) t p l = (refl, l.0, l.1)

-- a PATCH that is in turn by the rules is so by the history, and the other way round
module _ (h : Held) (us : List Update) (q : Accounts h us) (p : List ℕ) (w : FourOrEight (bits_in p)) where
  pub turn-ready : in_turn h p ≡ true → ready h.table.mark ≡ true
  unfolding in_turn
  turn-ready u = (each (turn_tests h p) u).0

  clean : ready h.table.mark ≡ true → (any is_reset us && not (spoiled us)) ≡ true
  clean r = sym q.patchable ∙ r

  -- what the run has with this message
  reach : ready h.table.mark ≡ true → h.table.nextentry + length (numbers_in p)
      ≡ length (under_way us) + length (carried p)
  reach r = ap₂ (λ a b. a + b) (q.reached r) (sym (carried-length p w))

  pub turn_of : in_turn h p ≡ true → InTurn us p
  unfolding in_turn
  turn_of u =
      let t = each (turn_tests h p) u in
      let r = t.0 in
      record {
        begun = and_fst (any is_reset us) (not (spoiled us)) (clean r);
        unspoiled = not-true (spoiled us) (and_snd (any is_reset us) (not (spoiled us)) (clean r));
        next = eqb-true (place_in p) h.table.nextplace t.1.0 ∙ q.placed r;
        alike = like-first (messages us) h.table p (q.first r) t.1.1.0;
        within = rw (reach r, q.long) at (leb-true (h.table.nextentry + length (numbers_in p)) (length h.entries)
            t.1.1.1.0);
        whole = λ e. sym (reach r) ∙ last e t.1.1.1.1.0 ∙ q.long;
      }
    where
      last : place_in p ≡ size_in p → (not (is_last p) || eqb (h.table.nextentry + length (numbers_in p))
          (length h.entries)) ≡ true
          → h.table.nextentry + length (numbers_in p) ≡ length h.entries
      last e f = eqb-true (h.table.nextentry + length (numbers_in p)) (length h.entries)
          (rw (eq-eqb (place_in p) (size_in p) e) at f)

  pub turn_is : InTurn us p → in_turn h p ≡ true
  unfolding in_turn
  turn_is t =
      let r : ready h.table.mark ≡ true = q.patchable ∙ and_intro (any is_reset us) (not (spoiled us)) t.begun
      (rw t.unspoiled) in
      every_of (turn_tests h p) (
        r,
        (
          eq-eqb (place_in p) h.table.nextplace (t.next ∙ sym (q.placed r)),
          (
            first-like (messages us) h.table p (q.first r) t.alike,
            (
              le-leb (h.table.nextentry + length (numbers_in p)) (length h.entries)
                  (rw (reach r, q.long) t.within),
              (last r (is_last p) refl, tt),
            ),
          ),
        ),
      )
    where
      last : ready h.table.mark ≡ true → (b : Bool) → is_last p ≡ b
          → (not (is_last p) || eqb (h.table.nextentry + length (numbers_in p)) (length h.entries)) ≡ true
      last r true e =
          rw e
          (eq-eqb (h.table.nextentry + length (numbers_in p)) (length h.entries)
          (reach r ∙ t.whole (eqb-true (place_in p) (size_in p) e) ∙ sym q.long))
      last r false e = rw e

module _ (h : Held) (us : List Update) (q : Accounts h us) (p : List ℕ) where
  -- a refusal changes the mark and no sum
  after-refusal : (n : ℕ) → eqb n 0 ≡ false → Accounts (broken_by h) (update p n ∷ us)
  unfolding broken_by
  after-refusal n a =
      record {
        long = rw a q.long;
        known = rw a q.known;
        infinity = rw a q.infinity;
        patchable = rw a (sym (and-false (any is_reset us)));
        mark = rw a;
        speaking = rw a (inside-quiet (not (any is_reset us)));
        reached = λ r. absurd (clash r refl);
        placed = λ r. absurd (clash r refl);
        first = λ r. absurd (clash r refl);
        totals = λ j l. rw a (q.totals j l);
      }

  after-reset : byte p 0 ≡ 0 → Accounts (reset_by p) (update p 0 ∷ us)
  unfolding reset_by
  after-reset e =
      record {
        long = rw e (length-replicate (length_in p) (infinity_in p) ∙ length-bytes p);
        known = rw e (length-bytes p);
        infinity = rw e;
        patchable = rw e;
        mark = rw e;
        speaking = rw e;
        reached = λ _. rw e;
        placed = λ _. rw e;
        first = λ _. rw e refl;
        totals = λ j l. rw (e, get_or-replicate (length_in p) j (infinity_in p) 0 (rw length-replicate at l))
            (sym (+ℤ_idr (pos (infinity_in p))));
      }

  module _ (v : byte p 0 ≡ 1) (w : FourOrEight (bits_in p)) (turn : in_turn h p ≡ true) (range : in_range h p ≡ true) where
    abbrev t : InTurn us p
    t = turn_of h us q p w turn

    r : ready h.table.mark ≡ true
    r = turn-ready h us q p w turn

    grown : length (brought (messages us ++ (p ∷ []))) ≡ h.table.nextentry + length (numbers_in p)
    grown =
        ap length (brought-more (messages us) p)
        ∙ length-append (under_way us) (carried p)
        ∙ sym (reach h us q p w r)

    -- the run under way has more numbers, and each entry has changed by the one that is for it
    sums-patch : (j : ℕ) → j < length (patch_by h p).entries
        → pos (get_or (patch_by h p).entries j 0)
        ≡ pos h.table.infinity +ℤ (get_or (brought (messages us ++ (p ∷ []))) j (pos 0) +ℤ total j (whole_runs us))
    unfolding patch_by in_range
    sums-patch j l =
        let k : j < length h.entries = subst (λ (n : ℕ). j < n) (patched-length h p) l in
        let g : given (map (signed (bits_in p)) (numbers_in p)) h.table.nextentry j ≡ given (carried p)
        (length (under_way us)) j
        = ap₂ (λ c n. given c n j) (sym (carried-is p w)) (q.reached r) in
        added-from h.table.nextentry (bits_in p) h.table.infinity (numbers_in p) h.entries j range k
        ∙ ap₂ (λ x y. x +ℤ y) (q.totals j k) g
        ∙ moved (pos h.table.infinity) (get_or (under_way us) j (pos 0)) (total j (whole_runs us))
        (given (carried p) (length (under_way us)) j)
        ∙ ap (λ x. pos h.table.infinity +ℤ (x +ℤ total j (whole_runs us)))
        (sym (joined_at (under_way us) (carried p) j) ∙ ap (λ x. get_or x j (pos 0)) (sym (brought-more (messages us) p)))
      where
        moved : (i a b c : ℤ) → (i +ℤ (a +ℤ b)) +ℤ c ≡ i +ℤ ((a +ℤ c) +ℤ b)
        moved i a b c =
            +ℤ_assoc i (a +ℤ b) c
            ∙ ap (λ x. i +ℤ x) (+ℤ_assoc a b c ∙ ap (λ x. a +ℤ x) (+ℤ_comm b c) ∙ sym (+ℤ_assoc a c b))

    -- by whether the message is its run's last
    last_or_not : {A : Type 0} → (is_last p ≡ true → A) → (is_last p ≡ false → A) → A
    last_or_not {A} f g = go (is_last p) refl
      where
        go : (b : Bool) → is_last p ≡ b → A
        go true e = f e
        go false e = g e

    after-patch : Accounts (patch_by h p) (update p 0 ∷ us)
    unfolding patch_by moved_on
    after-patch =
        record {
          long = simp v (patched-length h p ∙ q.long);
          known = simp v (moved_length h.table p ∙ q.known);
          infinity = simp v (moved-infinity h.table p ∙ q.infinity);
          patchable = last_or_not (λ e. simp (e, v, t.begun, t.unspoiled)) (λ e. simp (e, v, t.begun, t.unspoiled));
          mark = last_or_not (λ e. simp (e, v, t.begun, t.unspoiled)) (λ e. simp (e, v, t.begun, t.unspoiled));
          speaking = last_or_not (λ e. simp (e, v, t.begun, t.unspoiled))
              (λ e. simp (e, v, t.begun, t.unspoiled) (inside-quiet (before_run us)));
          reached = λ _. last_or_not (λ e. simp (e, v)) (λ e. simp (e, v) (sym grown));
          placed = λ _. last_or_not (λ e. simp (e, v))
              (λ e. simp (e, v) (ap (λ n. n + 1) t.next
              ∙ ap (λ n. n + 1) (sym (length-append (messages us) (p ∷ [])))));
          first = λ _. last_or_not (λ e. simp (e, v) refl)
              (λ e. simp (e, v) (after_first (messages us) h.table p t.alike));
          totals = λ j l. last_or_not (λ e. simp (e, v, +ℤ_idl) (sums-patch j l)) (λ e. simp (e, v) (sums-patch j l));
        }

  reset-variant : (room : ℕ) → good_reset room p ≡ true → byte p 0 ≡ 0
  unfolding good_reset
  reset-variant room g = eqb-true (byte p 0) 0 (each (reset_tests room p) g).1.0

  patch-variant : good_patch p ≡ true → byte p 0 ≡ 1
  patch-variant g = eqb-true (byte p 0) 1 (patch-tests p g).1.0

  -- an update, whatever it is answered
  pub after-update : (room ttl hops : ℕ) → Accounts (updated room h ttl hops p)
      (update p (update_answer room h ttl hops p) ∷ us)
  after-update room ttl hops =
      ⊎_elim
      (λ x. rw x.left (after-refusal (update_answer room h ttl hops p)
      (ne_eqb (update_answer room h ttl hops p) 0 x.number)))
      (⊎_elim
      (λ x. rw (x.left, x.number) (after-reset (reset-variant room x.fields)))
      (λ x. rw (x.left, x.number) (after-patch (patch-variant x.fields) (patch-width p x.fields)
      x.turn x.range)))
      (ways room h ttl hops p)

-- every list of updates from no table
pub accounts : (room : ℕ) (ss : List Sent) → Accounts (after room ss) (history room ss)
accounts room [] = nothing_yet
accounts room (s ∷ ss) = after-update (after room ss) (history room ss) (accounts room ss) s.payload room s.ttl
    s.hops

pub every-table : EveryTable
every-table room ss =
    let q = accounts room ss in
    record {
      long = q.long;
      known = q.known;
      infinity = q.infinity;
      sums = λ j l. rw (← q.infinity) (q.totals j l);
      mark = q.mark;
      speaking = q.speaking;
    }
