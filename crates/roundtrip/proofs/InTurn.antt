-- Updates one after another in some bytes, taken by message calls: the line has what the table's rules leave of it,
-- and nothing else changes.
-- Assumes nothing.
use Prim.Native.Nat.{ℕ, zero, suc, ◌+◌, ◌*◌, ◌≤◌, ◌<◌}
use native.Mathlib.Omega.{arith}
use mathlib.Core.Path.{◌≡◌, refl, sym, ap, ap₂, ◌∙◌, subst}
use mathlib.Core.List.{List, [], ◌∷◌, ◌++◌}
use lib.ListN.{length, get_or, take, drop, replicate, length-append}
use lib.Seq.{take_at, length-take-le, set-set}
use Rattle.laws.specs.Parts.{over}
use Rattle.laws.proofs.Chunks.{Each}
use Rattle.laws.proofs.Overlay.{over-behind, over-same-front}
use Rattle.tables.specs.declared.Table.{Table}
use Rattle.tables.specs.Tables.{Held}
use Rattle.tablemessages.specs.Writer.{joined}
use Rattle.tablemessages.specs.RoundTrip.{answer_to, after, answers_to, after_all}
use Rattle.protocol.specs.declared.Line.{Line}
use Rattle.protocol.specs.Lines.{with_table}
use Rattle.protocol.specs.State.{Station, station_of, line_at, with_line, held_at}
use Rattle.protocol.specs.Outcomes.{Terms}
use Rattle.protocol.specs.Calls.{update_step}
use Rattle.protocol.proofs.Outcomes.{stored-again}
use Rattle.protocol.proofs.ByType.{update_done}
use Rattle.protocol.proofs.Matching.{line_set}
use Rattle.roundtrip.specs.Feeding.{Fed, unfed, fed_by, AllTaken}
use Rattle.roundtrip.specs.RoundTrip.{Listening}
use Rattle.roundtrip.proofs.Feeding.{Full, Sendable, line-below, inside, held_then, listens_on, left-taken}
use Rattle.roundtrip.proofs.Feeding.{fed-next}

-- as many bytes written over others in the same place leave no trace of them
over-twice : (from : ℕ) (a b area : List ℕ) → length a ≡ length b → from + length a ≤ length area
    → over from b (over from a area) ≡ over from b area
over-twice from a b area e h =
    let front : take from (over from a area) ≡ take from area
    = take_at (take from area) (a ++ drop (from + length a) area) from (length-take-le from area (omega arith)) in
    ap₂ (λ x y. x ++ (b ++ y)) front (over-behind from a area (from + length b) h (omega arith))

-- a line that gets one table after another has the last
abbrev with_table_at : Station → ℕ → Table → Station
with_table_at s L t = with_line s L (with_table (line_at s L) t)

table-twice : (s : Station) (L : ℕ) (t u : Table) → L < length s.lines
    → with_table_at (with_table_at s L t) L u ≡ with_table_at s L u
table-twice s L t u h =
    let x : Line = with_table (line_at s L) t in
    ap (λ (y : Line). with_line (with_line s L x) L (with_table y u)) (line_set s L x h)
    ∙ ap (λ ls. station_of s.room ls s.memory) (set-set s.lines L x (with_table (line_at s L) u))

-- n entries after each message
abbrev pub AllFull : ℕ → ℕ → Held → List (List ℕ) → Type 0
AllFull n room h [] = Unit {0}
AllFull n room h (m ∷ ms) = Full n (after room h m) × AllFull n room (after room h m) ms

full-last : (n room : ℕ) (h : Held) (ms : List (List ℕ)) → Full n h → AllFull n room h ms → Full n (after_all room h ms)
unfolding after_all
full-last n room h [] f a = f
full-last n room h (m ∷ ms) f a = full-last n room (after room h m) ms a.0 a.1

-- what the calls leave
pub record FedTo (s : Station) (L : ℕ) (route : List ℕ) (messages bytes : ℕ) (last : Held) (f : Fed) : Type 0 where
  pub silent : AllTaken f.outcomes
  pub calls : length f.outcomes ≡ messages
  pub used : f.used ≡ bytes
  pub state : f.state ≡ with_line s L (with_table (line_at s L) last.table)
  pub area : f.area ≡ over (L * s.room) last.entries route

fed-nothing : (k : ℕ) (t : ℕ → Terms) (s : Station) (L : ℕ) (area : List ℕ) → fed_by k t L s area [] ≡ unfed s area
unfolding fed_by
fed-nothing zero t s L area = refl
fed-nothing (suc k) t s L area = refl

fed-none : (k : ℕ) (t : ℕ → Terms) (s : Station) (L : ℕ) (area : List ℕ) (h : Held) → held_at s L area ≡ h
    → FedTo s L area 0 0 h (fed_by k t L s area [])
fed-none k t s L area h e =
    rw (fed-nothing k t s L area)
    (record {
      silent = tt;
      calls = refl;
      used = refl;
      state = sym (stored-again s L) ∙ ap (λ (x : Held). with_line s L (with_table (line_at s L) x.table)) e;
      area = sym (over-same-front (L * s.room) (line_at s L).table.length s.room area)
          ∙ ap (λ (x : Held). over (L * s.room) x.entries area) e;
    })

-- every message in turn
pub feeding : (L n k : ℕ) (t : ℕ → Terms) (s : Station) (area : List ℕ) (h : Held) (ms : List (List ℕ))
    → Listening s L area
    → held_at s L area ≡ h
    → n ≤ s.room
    → Each Sendable ms
    → AllFull n s.room h ms
    → answers_to s.room h ms ≡ replicate (length ms) 0
    → length (joined ms) ≤ k
    → ((i : ℕ) → 4119 ≤ (t i).out)
    → FedTo s L area (length ms) (length (joined ms)) (after_all s.room h ms) (fed_by k t L s area (joined ms))
unfolding joined answers_to after_all update_step
feeding L n k t s area h [] w e within good full answers enough outs = fed-none k t s L area h e
feeding L n zero t s area h (m ∷ ms) w e within good full answers enough outs =
    let long : length m + length (joined ms) ≤ 0 = rw (length-append m (joined ms)) at enough in
    absurd (omega (arith, good.0.whole.long))
feeding L n (suc k) t s area h (m ∷ ms) w e within good full answers enough outs =
    let room : ℕ = s.room in
    let g : Sendable m = good.0 in
    let taken : answer_to room (held_at s L area) m ≡ 0
    = ap (λ (x : Held). answer_to room x m) e ∙ ap (λ (l : List ℕ). get_or l 0 1) answers in
    let same : after room (held_at s L area) m ≡ after room h m = ap (λ (x : Held). after room x m) e in
    let f : Full n (after room (held_at s L area) m) = subst (λ (x : Held). Full n x) (sym same) full.0 in
    let s' : Station = (update_done s L m area).state in
    let area' : List ℕ = (update_done s L m area).route in
    let long : length m + length (joined ms) ≤ suc k = rw (length-append m (joined ms)) at enough in
    let last : Held = after_all room (after room h m) ms in
    let rest : FedTo s' L area' (length ms) (length (joined ms)) last (fed_by k (λ i. t (suc i)) L s' area' (joined ms))
    = feeding L n k (λ i. t (suc i)) s' area' (after room h m) ms
    (listens_on s L area w m g n within f (t 0))
    (held_then s L area w m g n within f ∙ same)
    within
    good.1
    full.1
    (ap (drop 1) answers)
    (omega (arith, g.whole.long))
    (λ i. outs (suc i)) in
    let ends : length (after room (held_at s L area) m).entries ≡ length last.entries
    = f.entries ∙ sym (full-last n room (after room h m) ms full.0 full.1).entries in
    subst
    (λ (x : Fed). FedTo s L area (suc (length ms)) (length (m ++ joined ms)) last x)
    (sym (fed-next s L area w m g taken k t (joined ms) (outs 0)))
    (record {
      silent = (left-taken s L area w m g taken, rest.silent);
      calls = ap suc rest.calls;
      used = ap (λ i. length m + i) rest.used ∙ sym (length-append m (joined ms));
      state = rest.state
          ∙ table-twice s L (after room (held_at s L area) m).table last.table (line-below s L area w);
      area = rest.area
          ∙ over-twice (L * room) (after room (held_at s L area) m).entries last.entries area ends
          (rw f.entries (inside s L area w n within));
    })
