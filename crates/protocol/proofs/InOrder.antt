-- A state in order, fact by fact.
-- Assumes nothing.
use Prim.Native.Nat.{ℕ, ◌≤◌, ◌<◌}
use native.Mathlib.Omega.{arith}
use mathlib.Core.Path.{◌≡◌}
use mathlib.Core.Bool.{Bool, true, false, ◌&&◌, ◌||◌}
use mathlib.Core.Logic.Iff
use mathlib.Core.Logic.{◌↔◌}
use mathlib.Core.List.{List, [], ◌∷◌}
use lib.Dec.{eqb, leb, ltb}
use lib.ListN.{length}
use borrow.Author.Tests.{eqb-true, ltb-true, lt-ltb}
use Rattle.laws.specs.Tests.{all, every}
use Rattle.laws.proofs.Refusals.{and_fst, and_snd, and_intro, or_rest, each, every_of, all_get_d}
use Rattle.laws.proofs.Words.{and_iff, or_iff, eqb_iff}
use Rattle.tables.specs.Tables.{none, table_in_order}
use Rattle.protocol.specs.declared.Line.{Line}
use Rattle.protocol.specs.State.{Station, remembered, line_at}
use Rattle.protocol.specs.Memory.{capacity, no_twice, asker_fits, hits_fit, memory_in_order}
use Rattle.protocol.specs.Lines.{nowhere, pong_capacity}
use Rattle.protocol.specs.Order.{empty_when_closed, low_hops, line_in_order, lines_in_order, in_order}
use Rattle.protocol.specs.InOrderWords.{AskerWords}

-- an asker fits a state: an open line, here or gone
abbrev pub fits_in : Station → ℕ → Bool
fits_in s a = asker_fits (λ k. (line_at s k).live) a

pub asker_iff : (s : Station) (a : ℕ) → (fits_in s a ≡ true) ↔ AskerWords s a
asker_iff s a =
    let below : (ltb a 8 ≡ true) ↔ (a ≤ 7) = ((λ e. omega (arith, ltb-true a 8 e)), (λ h. lt-ltb a 8 (omega arith))) in
    or_iff (ltb a 8 && (line_at s a).live) (eqb a 8 || eqb a 9) (and_iff (ltb a 8) (line_at s a).live below Iff.rfl)
    (or_iff (eqb a 8) (eqb a 9) (eqb_iff a 8) (eqb_iff a 9))

abbrev memory_tests : Station → List Bool
memory_tests s =
    leb s.memory.count capacity
    ∷ ltb s.memory.next capacity
    ∷ no_twice (remembered s)
    ∷ all (λ q. fits_in s q.asker) (remembered s)
    ∷ all (λ q. hits_fit q.hits) (remembered s)
    ∷ []

abbrev line_tests : ℕ → Line → List Bool
line_tests room x =
    empty_when_closed x
    ∷ leb x.pongcount pong_capacity
    ∷ ltb x.pongnext pong_capacity
    ∷ low_hops x
    ∷ table_in_order room x.table
    ∷ []

pub record StateFacts (s : Station) : Type 0 where
  pub count : leb s.memory.count capacity ≡ true
  pub next : ltb s.memory.next capacity ≡ true
  pub twice : no_twice (remembered s) ≡ true
  pub askers : all (λ q. fits_in s q.asker) (remembered s) ≡ true
  pub hits : all (λ q. hits_fit q.hits) (remembered s) ≡ true
  pub lines : all (line_in_order s.room) s.lines ≡ true

pub record LineFacts (room : ℕ) (x : Line) : Type 0 where
  pub empty : empty_when_closed x ≡ true
  pub count : leb x.pongcount pong_capacity ≡ true
  pub next : ltb x.pongnext pong_capacity ≡ true
  pub hops : low_hops x ≡ true
  pub table : table_in_order room x.table ≡ true

pub state_facts : (s : Station) → in_order s ≡ true → StateFacts s
unfolding in_order memory_in_order
state_facts s e =
    let h = each (memory_tests s) (and_fst (every (memory_tests s)) (lines_in_order s.room s.lines) e) in
    record {
      count = h.0;
      next = h.1.0;
      twice = h.1.1.0;
      askers = h.1.1.1.0;
      hits = h.1.1.1.1.0;
      lines = and_snd (every (memory_tests s)) (lines_in_order s.room s.lines) e;
    }

pub state-order : (s : Station) → StateFacts s → in_order s ≡ true
unfolding in_order memory_in_order
state-order s h =
    and_intro (every (memory_tests s)) (lines_in_order s.room s.lines)
    (every_of (memory_tests s) (h.count, (h.next, (h.twice, (h.askers, (h.hits, tt))))))
    h.lines

pub line_facts : (room : ℕ) (x : Line) → line_in_order room x ≡ true → LineFacts room x
unfolding line_in_order
line_facts room x e =
    let h = each (line_tests room x) e in
    record { empty = h.0; count = h.1.0; next = h.1.1.0; hops = h.1.1.1.0; table = h.1.1.1.1.0 }

pub line-order : (room : ℕ) (x : Line) → LineFacts room x → line_in_order room x ≡ true
unfolding line_in_order
line-order room x h = every_of (line_tests room x) (h.empty, (h.count, (h.next, (h.hops, (h.table, tt)))))

-- one line of a state in order
pub facts_at : (s : Station) (l : ℕ) → in_order s ≡ true → l < length s.lines → LineFacts s.room (line_at s l)
facts_at s l e h =
    line_facts s.room (line_at s l)
    (all_get_d (line_in_order s.room) s.lines l nowhere (state_facts s e).lines h)

-- a closed line has no table
pub closed-mark : (s : Station) (l : ℕ) → in_order s ≡ true → l < length s.lines → (line_at s l).live ≡ false
    → (line_at s l).table.mark ≡ none
closed-mark s l e h c =
    let x : Line = line_at s l in
    eqb-true x.table.mark none
    (and_fst (eqb x.table.mark none) _ (or_rest x.live _ (facts_at s l e h).empty c))
