-- Laws of the answers: what the code has in hand makes what the definitions say of the whole.
use mathlib.Core.Path.{◌≡◌, refl, sym, ap, ap₂, ◌∙◌}
use mathlib.Core.Bool.{Bool, true, false, cond, not, ◌&&◌, and-false}
use mathlib.Core.List.{List, [], ◌∷◌}
use Prim.Native.Nat.{ℕ, ◌+◌, ◌-◌, ◌≤◌, ◌<◌}
use native.Mathlib.Omega.{arith}
use lib.Dec.{eqb, leb, ltb}
use lib.ListN.{length, take, drop}
use borrow.Author.Tests.{ne_eqb, eqb-true, eqb-false, lt-ltb, le-ltb, le-leb, lt-leb, leb-true, leb-false, not-true}
use borrow.Author.Tests.{not-false}
use Rattle.std.proofs.Common.{Option, Some, None, Ok}
use Rattle.laws.specs.Tests.{first_of, all}
use Rattle.laws.proofs.Refusals.{clash}
use Rattle.answer.specs.declared.Refusal.{Refusal}
use Rattle.answer.specs.Numbers.{number_of}
use Rattle.ascii.specs.Text.{is_text}
use Rattle.groups.specs.declared.start.FirstLine.{FirstLine}
use Rattle.groups.specs.declared.start.FirstLine.TheVariants.{Greeting, Reply}
use Rattle.groups.specs.Lines.{unless_zero, group_length, line_at, lines_of, first_line}
use Rattle.groups.specs.Start.{start_by, no_start, start_of}
use Rattle.groups.proofs.LineLaws.{first-at, others-at}
use Rattle.fields.specs.Fields.{lines_ok, is_absent}
use Rattle.fields.specs.Step.{Found, no_fields, found_in, refused_in, fits_in, written_in}
use Rattle.fields.proofs.FieldLaws.{found-good}
use Rattle.handshake.specs.declared.Opening.{Opening}
use Rattle.handshake.specs.Group.{lines_in, start_in, fields_in, is_start, understood, group_number, read_number}
use Rattle.handshake.specs.Group.{refused_group, group_from, read_group, group_by, Opened, NotOpened, value_in}
use Rattle.handshake.specs.Group.{asked_from, asked_number, asked_with, ask_field, asked_out}
use Rattle.handshake.proofs.Order.{not-ten}

-- ---- the first line of a group

-- a length that is there is the group's, and one that is not is 0
pub length-some : (m : List ℕ) (r : Option ℕ) (n : ℕ) → r ≡ unless_zero (group_length m) → r ≡ Some n
    → group_length m ≡ n
length-some m r n e h = go (eqb (group_length m) 0) (sym h ∙ e)
  where
    go : (t : Bool) → Some n ≡ cond t None (Some (group_length m)) → group_length m ≡ n
    go true k = cc
    go false k = cc

pub some-length : (m : List ℕ) (r : Option ℕ) (n : ℕ) → r ≡ unless_zero (group_length m) → r ≡ Some n
    → 0 < group_length m
some-length m r n e h = go (eqb (group_length m) 0) refl (sym h ∙ e)
  where
    go : (t : Bool) → eqb (group_length m) 0 ≡ t → Some n ≡ cond t None (Some (group_length m)) → 0 < group_length m
    go true d k = cc
    go false d k = let z = eqb-false (group_length m) 0 d in omega arith

pub length-none : (m : List ℕ) (r : Option ℕ) → r ≡ unless_zero (group_length m) → r ≡ None → group_length m ≡ 0
length-none m r e h = go (eqb (group_length m) 0) refl (sym h ∙ e)
  where
    go : (t : Bool) → eqb (group_length m) 0 ≡ t → ◌≡◌ {A = Option ℕ} None (cond t None (Some (group_length m)))
        → group_length m ≡ 0
    go true d k = eqb-true (group_length m) 0 d
    go false d k = cc

-- no line at all is no greeting and no reply
none-start : (m : List ℕ) → (start_in m 0).kind ≡ 0
unfolding start_of
none-start m = refl

none-understood : (m : List ℕ) → understood m 0 ≡ false
unfolding understood start_of
none-understood m = refl

-- a group that does not end is refused by how many bytes are there
module _ (m : List ℕ) (e : group_length m ≡ 0) (refusal : Refusal) where
  pub no-end-long : 4096 ≤ length m → number_of refusal ≡ 18 → NotOpened m refusal
  unfolding group_number
  no-end-long h r = record {
    number = r ∙ rw (e, le-leb 4096 (length m) h);
    not-understood = rw e (none-understood m);
  }

  pub no-end-short : length m < 4096 → number_of refusal ≡ 4 → NotOpened m refusal
  unfolding group_number
  no-end-short h r = record {
    number = r ∙ rw (e, lt-leb 4096 (length m) h);
    not-understood = rw e (none-understood m);
  }

-- the group's first line, and what stands behind it
module _ (m lines first : List ℕ) (n : ℕ) (e : group_length m ≡ n) (p : lines ≡ take (n - 2) m)
    (f : first ≡ line_at lines 0) where
  first-is : first ≡ first_line (lines_in m n)
  first-is = f ∙ ap (λ x. line_at x 0) p ∙ first-at _

  understood_first : is_start first (start_of first).kind ≡ false → understood m (group_length m) ≡ false
  unfolding understood
  understood_first s =
      let t : is_start (first_line (lines_in m n)) (start_in m n).kind ≡ false = rw first-is at s in
      rw (e, t)

  -- a first line that is not understood
  refused_first : (n ≡ 0 → ⊥) → is_start first (start_of first).kind ≡ false → (refusal : Refusal)
      → number_of refusal ≡ 17 → NotOpened m refusal
  unfolding group_number
  refused_first z s refusal r =
      record { number = r ∙ rw (e, ne_eqb n 0 z); not-understood = understood_first s }

  pub first-no-text : (n ≡ 0 → ⊥) → all is_text first ≡ false → (refusal : Refusal) → number_of refusal ≡ 17
      → NotOpened m refusal
  first-no-text z t = refused_first z (rw t)

  pub first-no-start : (n ≡ 0 → ⊥) → no_start ≡ start_of first → (refusal : Refusal) → number_of refusal ≡ 17
      → NotOpened m refusal
  first-no-start z s = refused_first z (rw (← s) (and-false (all is_text first)))

  some-kind : (start : FirstLine) → not (eqb (start_by (Some start)).kind 0) ≡ true
  some-kind (Greeting major minor) = refl
  some-kind (Reply major minor code) = refl

  pub first-opened : (group : Opening) → group.used ≡ n → all is_text first ≡ true
      → start_by (Some group.start) ≡ start_of first → group.fields.now ≡ drop (length first + 2) lines → Opened m group
  first-opened group u t s g =
      record {
        length = u ∙ sym e;
        first = rw (u, ← first-is, ← s, t) (some-kind group.start);
        start = s ∙ rw (u, first-is);
        fields = ap lines_of (g ∙ ap₂ (λ l x. drop (length l + 2) x) (f ∙ ap (λ x. line_at x 0) p) p) ∙ others-at _
            ∙ rw u;
      }

-- ---- a group that was refused

refused-some : (n size : ℕ) → group_number n size false ≡ 0 → ⊥
unfolding group_number
refused-some n size = go (eqb n 0) (leb 4096 size)
  where
    go : (a b : Bool) → first_of ((a && b, 18) ∷ (a, 4) ∷ (true, 17) ∷ []) ≡ 0 → ⊥
    go true true e = omega arith
    go true false e = omega arith
    go false b e = omega arith

-- what reading is refused with is what asking is
module _ (m : List ℕ) (refusal : Refusal) (read : read_number m ≡ number_of refusal)
    (some : eqb (read_number m) 0 ≡ false) where
  pub refused-read : refused_group (number_of refusal) ≡ read_group m
  unfolding group_from
  refused-read = rw (← read, some)

  pub refused-ask : (name : List ℕ) (room : ℕ)
      → record { answer = number_of refusal; used = 0; written = 0 } ≡ ask_field m name room
  unfolding asked_from asked_with
  refused-ask name room = rw (← read, some, some, not-ten (group_length m) (length m) (understood m (group_length m)))

  pub refused-out : (name out : List ℕ) → out ≡ asked_out m name out
  unfolding asked_from
  refused-out name out = rw (some, some)

module _ {m : List ℕ} {refusal : Refusal} (h : NotOpened m refusal) where
  pub not-read : read_number m ≡ number_of refusal
  not-read = rw h.not-understood (sym h.number)

  pub not-some : eqb (read_number m) 0 ≡ false
  not-some = rw h.not-understood (ne_eqb _ 0 (refused-some (group_length m) (length m)))

-- a value that is there and has room is what 0 stands for
fits-asked : (absent : Bool) (long room : ℕ) → (not absent && leb long room) ≡ eqb (asked_from 0 absent long room) 0
unfolding asked_from
fits-asked true long room = refl
fits-asked false long room = go (leb long room) refl
  where
    go : (t : Bool) → leb long room ≡ t → leb long room ≡ eqb (first_of ((ltb room long, 2) ∷ [])) 0
    go true e = e ∙ rw (le-ltb room long (leb-true long room e))
    go false e = e ∙ rw (lt-ltb room long (leb-false long room e))

-- ---- a group whose first line is understood

module _ {m : List ℕ} {g : Opening} (h : Opened m g) where
  abbrev ls : List (List ℕ)
  ls = lines_of g.fields.now

  understood-is : understood m (group_length m) ≡ lines_ok false ls
  unfolding understood
  understood-is = rw (← h.length, h.first, h.fields)

  -- there is a group
  whole : group_length m ≡ 0 → ⊥
  whole z =
      let kind : (start_in m g.used).kind ≡ 0 = rw (h.length ∙ z) (none-start m) in
      clash h.first (rw kind (and-false (all is_text (first_line (lines_in m g.used)))))

  number : (t : Bool) → lines_ok false ls ≡ t → read_number m ≡ cond t 0 17
  unfolding group_number
  number t e = rw (ne_eqb (group_length m) 0 whole, understood-is, e) (go t)
    where
      go : (t : Bool) → first_of ((not t, 17) ∷ []) ≡ cond t 0 17
      go true = refl
      go false = refl

  -- its lines are no fields
  module _ (name : List ℕ) (refusal : Refusal) (f : no_fields ≡ found_in name ls) (r : number_of refusal ≡ refused_in ls)
    where
      bad : lines_ok false ls ≡ false
      bad = sym (ap (λ (x : Found). x.good) f ∙ found-good name ls)

      pub bad-read : read_number m ≡ number_of refusal
      bad-read = number false bad ∙ sym (r ∙ rw bad)

      pub bad-some : eqb (read_number m) 0 ≡ false
      bad-some = rw (number false bad)

      pub bad-out : (out after : List ℕ) → after ≡ written_in name ls out → after ≡ out
      bad-out out after w = w ∙ rw (← f)

  -- its lines are fields
  pub good-read : (name : List ℕ) (f : Found) → f ≡ found_in name ls → f.good ≡ true
      → group_by (Ok (record { used = g.used; start = g.start })) ≡ read_group m
  unfolding group_from
  good-read name f e k =
      let v : lines_ok false ls ≡ true = sym (found-good name ls) ∙ ap (λ (x : Found). x.good) (sym e) ∙ k in
      rw (number true v, h.start, ← h.length)

  -- and one of them was asked for
  module _ (name : List ℕ) (f : Found) (e : f ≡ found_in name ls) (k : f.good ≡ true) where
    fine : lines_ok false ls ≡ true
    fine = sym (found-good name ls) ∙ ap (λ (x : Found). x.good) (sym e) ∙ k

    zero-read : read_number m ≡ 0
    zero-read = number true fine

    there-is : f.there ≡ not (is_absent name (fields_in m (group_length m)))
    unfolding found_in
    there-is = ap (λ (x : Found). x.there) e ∙ rw (fine, h.fields, h.length)

    length-is : f.length ≡ length (value_in m name)
    unfolding found_in
    length-is = ap (λ (x : Found). x.length) e ∙ rw (fine, h.fields, h.length)

    absent-is : (t : Bool) → f.there ≡ t → is_absent name (fields_in m (group_length m)) ≡ not t
    absent-is true t = not-true _ (sym there-is ∙ t)
    absent-is false t = not-false _ (sym there-is ∙ t)

    pub ask-absent : f.there ≡ false → (room : ℕ) → record { answer = 10; used = g.used; written = 0 }
        ≡ ask_field m name room
    unfolding asked_from asked_with
    ask-absent t room = rw (zero-read, absent-is false t, ← h.length)

    pub ask-short : f.there ≡ true → (room : ℕ) → room < f.length → record { answer = 2; used = 0; written = 0 }
        ≡ ask_field m name room
    unfolding asked_from asked_with
    ask-short t room k = rw (zero-read, absent-is true t, lt-ltb room _ (rw length-is at k))

    pub ask-there : f.there ≡ true → (room : ℕ) → f.length ≤ room
        → record { answer = 0; used = g.used; written = f.length } ≡ ask_field m name room
    unfolding asked_from asked_with
    ask-there t room k =
        rw (zero-read, absent-is true t, h.length, length-is, le-ltb room (length (value_in m name)) (rw length-is at k))

    pub ask-out : (out after : List ℕ) → after ≡ written_in name ls out → after ≡ asked_out m name out
    ask-out out after w =
        let room = length out in
        let fits = fits-asked (is_absent name (fields_in m (group_length m))) (length (value_in m name)) room in
        let one : fits_in f room ≡ eqb (asked_number m name room) 0 = rw (k, there-is, length-is, zero-read) fits in
        let both : fits_in (found_in name ls) room ≡ eqb (asked_number m name room) 0
        = ap (λ (x : Found). fits_in x room) (sym e) ∙ one in
        w ∙ rw (both, h.fields, h.length)
