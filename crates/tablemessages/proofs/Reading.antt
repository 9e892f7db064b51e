-- Reading a RESET, and a run over its parts: each message is answered 0, and after the last the table is settled with
-- every number of the run added. Assumes nothing.
use Prim.Native.Nat.{ℕ, suc, ◌+◌, ◌≤◌, ◌<◌}
use mathlib.Core.Path.{◌≡◌, refl, sym, ◌∙◌}
use mathlib.Core.Bool.{true, false, not, ◌&&◌, ◌||◌, or-true, and-false}
use mathlib.Core.List.{List, [], ◌∷◌, ◌++◌, append-nil}
use native.Mathlib.Omega.{arith}
use native.Mathlib.Numerals.{add-one}
use lib.Dec.{eqb}
use borrow.Author.Tests.{le-leb, eqb-true, eq-eqb, ne_eqb}
use lib.ListN.{length, replicate, length-append}
use Rattle.laws.proofs.Chunks.{Each, implied, and_both, and_first, and_second}
use Rattle.laws.proofs.Writing.{little_of_bytes}
use Rattle.tables.specs.declared.Table.{Table}
use Rattle.tables.specs.Patch.{numbers}
use Rattle.tables.specs.Tables.{Held, waiting, running, ready, good_length, good_infinity}
use Rattle.tables.specs.Updates.{good_reset, good_patch, in_turn, in_range, is_patch, update_answer, updated, reset_by}
use Rattle.tables.specs.Updates.{moved_on, patch_by}
use Rattle.tables.proofs.PatchFacts.{Width, four, eight, numbers_append, added_at, fit_at, added_at-length, added_twice}
use Rattle.tables.proofs.PatchFacts.{fit-twice}
use Rattle.tablemessages.specs.Writer.{update, reset_payload, patch_payload, run_from, joined}
use Rattle.tablemessages.specs.RoundTrip.{answer_to, after, answers_to, after_all, settled_table, ReadAs, run_payloads}
use Rattle.tablemessages.proofs.Whole.{Short, Whole, whole}

-- an update that was taken
pub record Taken (room : ℕ) (h : Held) (m : List ℕ) (then : Held) : Type 0 where
  pub answer : answer_to room h m ≡ 0
  pub held : after room h m ≡ then

-- a payload that passes the tests, whole, is taken
module _ (room : ℕ) (h : Held) (p : List ℕ) where
  patch-answer : good_patch p ≡ true → in_turn h p ≡ true → in_range h p ≡ true → update_answer room h 1 0 p ≡ 0
  unfolding update_answer
  patch-answer good turn range =
      rw (good, turn, range, or-true (good_reset room p), and-false (is_patch p))

  reset-answer : good_reset room p ≡ true → is_patch p ≡ false → update_answer room h 1 0 p ≡ 0
  unfolding update_answer
  reset-answer good other = rw (good, other)

  patch-held : is_patch p ≡ true → update_answer room h 1 0 p ≡ 0 → updated room h 1 0 p ≡ patch_by h p
  unfolding updated
  patch-held is answer = rw (answer, is)

  reset-held : is_patch p ≡ false → update_answer room h 1 0 p ≡ 0 → updated room h 1 0 p ≡ reset_by p
  unfolding updated
  reset-held is answer = rw (answer, is)

  taken : (number : List ℕ) → length number ≡ 16 → Short p → (then : Held) → update_answer room h 1 0 p ≡ 0
      → updated room h 1 0 p ≡ then
      → Taken room h (update number p) then
  taken number sixteen short then answer held =
      let w : Whole p (update number p) = whole number sixteen p short in
      record {
        answer = rw (w.ttl, w.hops, w.content) answer;
        held = rw (w.ttl, w.hops, w.content) held;
      }

-- one message more
pub read_more : {room : ℕ} {h : Held} {m : List ℕ} {next : Held} {ms : List (List ℕ)} {last : Held}
    → Taken room h m next → ReadAs room next ms last → ReadAs room h (m ∷ ms) last
unfolding answers_to after_all
read_more t r =
    record {
      answers = rw (t.held, t.answer, r.answers);
      held = rw t.held r.held;
    }

pub read_none : (room : ℕ) (h : Held) → ReadAs room h [] h
unfolding answers_to after_all
read_none room h = record { answers = refl; held = refl }

-- a RESET is taken whatever is held
abbrev pub reset_to : ℕ → ℕ → Held
reset_to n infinity =
    record {
      table = record {
        mark = waiting;
        length = n;
        infinity = infinity;
        nextplace = 1;
        runsize = 0;
        runbits = 0;
        nextentry = 0;
      };
      entries = replicate n infinity;
    }

module _ (room n infinity : ℕ) (small : n < 4294967296) where
  reset-passes : good_length n ≡ true → n ≤ room → good_infinity infinity ≡ true → good_reset room
      (reset_payload n infinity) ≡ true
  unfolding good_reset
  reset-passes good within limit = rw (little_of_bytes n small, good, le-leb n room within, limit)

  reset-leaves : reset_by (reset_payload n infinity) ≡ reset_to n infinity
  unfolding reset_by
  reset-leaves = rw (little_of_bytes n small)

  pub reset-taken : (h : Held) (number : List ℕ) → length number ≡ 16 → good_length n ≡ true → n ≤ room
      → good_infinity infinity ≡ true
      → Taken room h (update number (reset_payload n infinity)) (reset_to n infinity)
  reset-taken h number sixteen good within limit =
      let p : List ℕ = reset_payload n infinity in
      let answer : update_answer room h 1 0 p ≡ 0 = reset-answer room h p (reset-passes good within limit) refl in
      taken room h p number sixteen (omega arith) (reset_to n infinity) answer
      (reset-held room h p refl answer ∙ reset-leaves)

-- the table awaits this place of a run of this size and bits
pub record Awaits (t : Table) (place size bits : ℕ) : Type 0 where
  pub open_to : ready t.mark ≡ true
  pub next : t.nextplace ≡ place
  pub alike : (not (eqb t.mark running) || (eqb size t.runsize && eqb bits t.runbits)) ≡ true

-- what a PATCH leaves: before the last of its run, and the last
abbrev pub moved_to : ℕ → ℕ → ℕ → List ℕ → Held → Held
moved_to place size bits d h =
    record {
      table = record {
        mark = running;
        length = h.table.length;
        infinity = h.table.infinity;
        nextplace = place + 1;
        runsize = size;
        runbits = bits;
        nextentry = h.table.nextentry + length (numbers bits d);
      };
      entries = added_at bits h.table.nextentry (numbers bits d) h.entries;
    }

abbrev pub settled_to : ℕ → List ℕ → Held → Held
settled_to bits d h =
    record {
      table = settled_table h.table.length h.table.infinity;
      entries = added_at bits h.table.nextentry (numbers bits d) h.entries;
    }

width-test : {bits : ℕ} → Width bits → (eqb bits 4 || eqb bits 8) ≡ true
width-test four = refl
width-test eight = refl

module _ {bits : ℕ} (w : Width bits) (size place : ℕ) (d : List ℕ) (h : Held) where
  patch-good : 1 ≤ place → place ≤ size → good_patch (patch_payload place size bits d) ≡ true
  unfolding good_patch
  patch-good low high =
      and_both
      (le-leb 5 (length (patch_payload place size bits d)) (omega arith))
      (and_both (le-leb 1 place low) (and_both (le-leb place size high) (and_both (width-test w) refl)))

  patch-turn : Awaits h.table place size bits → h.table.nextentry + length (numbers bits d) ≤ length h.entries
      → (place ≡ size → h.table.nextentry + length (numbers bits d) ≡ length h.entries)
      → in_turn h (patch_payload place size bits d) ≡ true
  unfolding in_turn
  patch-turn a within last =
      let sum : ℕ = h.table.nextentry + length (numbers bits d) in
      let all : ℕ = length h.entries in
      and_both
      a.open_to
      (and_both
      (eq-eqb place h.table.nextplace (sym a.next))
      (and_both
      a.alike
      (and_both
      (le-leb sum all within)
      (and_both (implied (eqb place size) (eqb sum all) (λ e. eq-eqb sum all (last (eqb-true place size e)))) refl))))

  pub patch-taken : (room : ℕ) (number : List ℕ) → length number ≡ 16 → Short (patch_payload place size bits d)
      → Awaits h.table place size bits → 1 ≤ place → place ≤ size → h.table.nextentry + length (numbers bits d)
      ≤ length h.entries
      → (place ≡ size → h.table.nextentry + length (numbers bits d) ≡ length h.entries)
      → fit_at bits h.table.infinity h.table.nextentry (numbers bits d) h.entries ≡ true
      → Taken room h (update number (patch_payload place size bits d)) (patch_by h (patch_payload place size bits d))
  unfolding in_range
  patch-taken room number sixteen short a low high within last fit =
      let p : List ℕ = patch_payload place size bits d in
      let answer : update_answer room h 1 0 p ≡ 0 = patch-answer room h p (patch-good low high)
      (patch-turn a within last) fit in
      taken room h p number sixteen short (patch_by h p) answer (patch-held room h p refl answer)

  patch-moves : (place ≡ size → ⊥) → patch_by h (patch_payload place size bits d) ≡ moved_to place size bits d h
  unfolding patch_by moved_on
  patch-moves e = rw (ne_eqb place size e)

  patch-settles : place ≡ size → patch_by h (patch_payload place size bits d) ≡ settled_to bits d h
  unfolding patch_by moved_on
  patch-settles e = rw (eq-eqb place size e)

-- what a run of these parts needs of what is held, from `place` on: its numbers reach exactly to the end, and every sum
-- fits
pub record RunFits (bits size place : ℕ) (ds : List (List ℕ)) (h : Held) : Type 0 where
  pub awaits : Awaits h.table place size bits
  pub long : h.table.nextentry + length (numbers bits (joined ds)) ≡ length h.entries
  pub fit : fit_at bits h.table.infinity h.table.nextentry (numbers bits (joined ds)) h.entries ≡ true

module _ {bits : ℕ} (w : Width bits) (room size : ℕ) (number : List ℕ) (sixteen : length number ≡ 16) where
  -- the last message
  run-last : (place : ℕ) (d : List ℕ) (h : Held) → 1 ≤ place → place ≡ size → Short (patch_payload place size bits d)
      → RunFits bits size place (d ∷ []) h → Taken room h (update number (patch_payload place size bits d))
      (settled_to bits (joined (d ∷ [])) h)
  unfolding joined
  run-last place d h low e short r =
      let long : h.table.nextentry + length (numbers bits d) ≡ length h.entries = rw (append-nil d) at r.long in
      let fit : fit_at bits h.table.infinity h.table.nextentry (numbers bits d) h.entries ≡ true =
      rw (append-nil d) at r.fit in
      rw
      (append-nil d, ← patch-settles w size place d h e)
      (patch-taken w size place d h room number sixteen short r.awaits low (omega arith)
      (omega arith) (λ e. long) fit)

  -- a message before the last, and what it leaves for the others
  module _ (place : ℕ) (d e : List ℕ) (ds : List (List ℕ)) (h : Held) (r : RunFits bits size place (d ∷ e ∷ ds) h) where
    run-numbers : numbers bits (joined (d ∷ e ∷ ds)) ≡ numbers bits d ++ numbers bits (joined (e ∷ ds))
    unfolding joined
    run-numbers = numbers_append w d (joined (e ∷ ds))

    run_long : h.table.nextentry + length (numbers bits d) + length (numbers bits (joined (e ∷ ds)))
        ≡ length h.entries
    run_long =
        let long : h.table.nextentry + (length (numbers bits d) + length (numbers bits (joined (e ∷ ds))))
        ≡ length h.entries
        = rw (run-numbers, length-append (numbers bits d) (numbers bits (joined (e ∷ ds)))) at r.long in
        omega arith

    run-within : h.table.nextentry + length (numbers bits d) ≤ length h.entries
    run-within =
        let long : h.table.nextentry + length (numbers bits d) + length (numbers bits (joined (e ∷ ds)))
        ≡ length h.entries = run_long in omega arith

    -- what is left to add fits just as it did before this message
    run-fit : (fit_at bits h.table.infinity h.table.nextentry (numbers bits d) h.entries
        && fit_at bits h.table.infinity (h.table.nextentry + length (numbers bits d))
        (numbers bits (joined (e ∷ ds)))
        (added_at bits h.table.nextentry (numbers bits d) h.entries))
        ≡ true
    run-fit =
        fit-twice bits h.table.nextentry (numbers bits d) h.entries run-within h.table.infinity
        (numbers bits (joined (e ∷ ds)))
        ∙ (rw run-numbers at r.fit)

    run_on : RunFits bits size (suc place) (e ∷ ds) (moved_to place size bits d h)
    run_on =
        record {
          awaits = record {
            open_to = refl;
            next = add-one place;
            alike = and_both (eq-eqb size size refl) (eq-eqb bits bits refl);
          };
          long = rw (added_at-length bits h.table.nextentry (numbers bits d) h.entries run-within) run_long;
          fit = and_second
              (fit_at bits h.table.infinity h.table.nextentry (numbers bits d) h.entries)
              (fit_at bits h.table.infinity (h.table.nextentry + length (numbers bits d))
              (numbers bits (joined (e ∷ ds)))
              (added_at bits h.table.nextentry (numbers bits d) h.entries))
              run-fit;
        }

    run-first : 1 ≤ place → place < size → Short (patch_payload place size bits d)
        → Taken room h (update number (patch_payload place size bits d)) (moved_to place size bits d h)
    run-first low high short =
        rw
        (← patch-moves w size place d h (λ q. omega arith))
        (patch-taken
        w
        size
        place
        d
        h
        room
        number
        sixteen
        short
        r.awaits
        low
        (omega arith)
        run-within
        (λ q. absurd (omega arith))
        (and_first
        (fit_at bits h.table.infinity h.table.nextentry (numbers bits d) h.entries)
        (fit_at bits h.table.infinity (h.table.nextentry + length (numbers bits d))
        (numbers bits (joined (e ∷ ds)))
        (added_at bits h.table.nextentry (numbers bits d) h.entries))
        run-fit))

    -- and it comes to the same
    run-same : settled_to bits (joined (e ∷ ds)) (moved_to place size bits d h) ≡ settled_to bits (joined (d ∷ e ∷ ds)) h
    run-same = rw (
      run-numbers,
      added_twice bits h.table.nextentry (numbers bits d) h.entries run-within
          (numbers bits (joined (e ∷ ds))),
    )

  -- the messages of a run in turn: the table is settled, with all numbers of the run added
  pub run-read : (place : ℕ) (d : List ℕ) (ds : List (List ℕ)) (h : Held) → 1 ≤ place → place + length ds ≡ size
      → Each Short (run_payloads place size bits (d ∷ ds)) → RunFits bits size place (d ∷ ds) h
      → ReadAs room h (run_from number place size bits (d ∷ ds)) (settled_to bits (joined (d ∷ ds)) h)
  unfolding run_from run_payloads
  run-read place d [] h low e short r =
      read_more (run-last place d h low (omega arith) short.0 r)
      (read_none room (settled_to bits (joined (d ∷ [])) h))
  run-read place d (c ∷ ds) h low e short r =
      read_more
      (run-first place d c ds h r low (omega arith) short.0)
      (rw (run-same place d c ds h r) at (run-read (suc place) c ds (moved_to place size bits d h) (omega arith)
      (omega arith) short.1
      (run_on place d c ds h r)))
