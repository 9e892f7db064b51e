-- Openings and closings: answered 0 exactly where the line may be turned, and then bare.
-- Assumes nothing.
use Prim.Native.Nat.{ℕ, ◌≤◌, ◌<◌}
use native.Mathlib.Omega.{arith}
use mathlib.Core.Path.{◌≡◌, refl, sym, ◌∙◌}
use mathlib.Core.Bool.{Bool, true, false, cond, not, ◌||◌}
use mathlib.Core.Logic.Iff
use mathlib.Core.Logic.{◌↔◌}
use mathlib.Core.List.{List, [], ◌∷◌, map}
use lib.Dec.{ltb}
use lib.ListN.{length}
use borrow.Author.Tests.{ltb-true, lt-ltb, not-false}
use Rattle.laws.specs.Ring.{kept_places}
use Rattle.laws.proofs.Refusals.{or_fst, or_snd, no-refusal}
use Rattle.laws.proofs.Words.{or_iff, no_iff, yes_iff, least_iff, first_iff}
use Rattle.protocol.specs.declared.Age.{Age}
use Rattle.protocol.specs.declared.Line.{Line}
use Rattle.protocol.specs.State.{Station, remembered, line_at, with_line}
use Rattle.protocol.specs.Lines.{line_count, empty_line, stored_pongs}
use Rattle.protocol.specs.Order.{in_order}
use Rattle.protocol.specs.Memory.{no_age}
use Rattle.protocol.specs.Outcomes.{Outcome, quiet, hands_up, refused_or}
use Rattle.protocol.specs.Calls.{opening, closed_state, closing}
use Rattle.protocol.specs.Kept.{Sized}
use Rattle.protocol.specs.Frames.{Bare, Beside, Silent}
use Rattle.protocol.specs.Opened.{gone_by, Renewed, LineAnswered, OpenRouted, CloseRouted}
use Rattle.protocol.proofs.Outcomes.{of_refused, answer-taken}
use Rattle.protocol.proofs.Memory.{remembered-left}
use Rattle.protocol.proofs.Matching.{line_set, line_other}

-- a quiet outcome is silent, whatever age it hands up, and so is one that is refused or leaves quietly
pub quiet-silent : (n : ℕ) (a : Age) (s : Station) (route : List ℕ) → Silent (hands_up a (quiet n s route))
quiet-silent n a s route =
    record { to = refl; sent = refl; delivered = refl; search = refl; textat = refl; textlen = refl }

pub silent_of : (o : Outcome) (n : ℕ) (a : Age) (s : Station) (route : List ℕ)
    → o ≡ hands_up a (quiet n s route) → Silent o
silent_of o n a s route e = rw e (quiet-silent n a s route)

-- a line that begins anew
empty-bare : (live : Bool) → Bare live (empty_line live)
unfolding stored_pongs kept_places
empty-bare live = record { is_live = refl; mark = refl; pongs = refl; unpinged = refl; unheld = refl; unshut = refl }

pub bare-at : (live : Bool) (x : Line) → x ≡ empty_line live → Bare live x
bare-at live x e = rw e (empty-bare live)

-- one line's record is set
pub beside-set : (s : Station) (l : ℕ) (x : Line) → Beside l s (with_line s l x)
beside-set s l x = record { others = line_other s l x; room = refl }

-- 3 where the line is over 7 or stands as it must not, else the state s' is left
module _ (s s' : Station) (l : ℕ) (must bad : Bool)
    (good : (bad ≡ false) ↔ ((line_at s l).live ≡ must)) (ill : (bad ≡ true) ↔ ((line_at s l).live ≡ not must)) where
  abbrev test : Bool
  test = not (ltb l line_count) || bad

  abbrev turned : Outcome
  turned = refused_or (cond test 3 0) s [] (quiet 0 s' [])

  is : turned.answer ≡ cond test 3 0
  is = answer-taken (cond test 3 0) s [] (quiet 0 s' []) refl

  line-answered : LineAnswered must s l turned
  line-answered =
      record {
        taken = (
          (λ e. let t = (no-refusal ((test, 3) ∷ []) refl (sym is ∙ e)).0 in
              let h : l < 8 = ltb-true l 8 (not-false (ltb l 8) (or_fst (not (ltb l 8)) bad t)) in
              (omega arith, good.0 (or_snd (not (ltb l 8)) bad t))),
          (λ v. let h : l < 8 = let k = v.0 in omega arith in is ∙ rw (lt-ltb l 8 h, good.1 v.1)),
        );
        refused =
            rw is (Iff.trans (first_iff 3 test [] refl refl) (or_iff (not (ltb l 8)) bad (least_iff l 8) ill));
        silent =
            of_refused Silent (cond test 3 0) s [] (quiet 0 s' [])
            (λ _. quiet-silent 0 no_age s' [])
            (λ _. quiet-silent (cond test 3 0) no_age s []);
      }

module _ (s : Station) (z : Sized s) (o : in_order s ≡ true) (l : ℕ) where
  below : l ≤ 7 → l < length s.lines
  below h = omega (arith, z.eight)

  opened : l ≤ 7 → Renewed true l (remembered s) s (with_line s l (empty_line true))
  opened h =
      record {
        line = bare-at true (line_at (with_line s l (empty_line true)) l) (line_set s l (empty_line true) (below h));
        beside = beside-set s l (empty_line true);
        memory = refl;
        hits = refl;
      }

  closed : l ≤ 7 → Renewed false l (map (gone_by l) (remembered s)) s (closed_state s l)
  closed h =
      record {
        line = bare-at false (line_at (closed_state s l) l) (line_set s l (empty_line false) (below h));
        beside = record { others = line_other s l (empty_line false); room = refl };
        memory = remembered-left s l z;
        hits = refl;
      }

  pub open_routed : OpenRouted s l (opening s l)
  unfolding opening
  open_routed =
      record {
        answered =
            rw o (line-answered s (with_line s l (empty_line true)) l false (line_at s l).live Iff.rfl Iff.rfl);
        leaves = λ h e. let b : l < 8 = omega arith in rw (o, lt-ltb l 8 b, e) (opened h);
      }

  pub close-routed : CloseRouted s l (closing s l)
  unfolding closing
  close-routed =
      let live : Bool = (line_at s l).live in
      record {
        answered = rw o (line-answered s (closed_state s l) l true (not live) (yes_iff live) (no_iff live));
        leaves = λ h e. let b : l < 8 = omega arith in rw (o, lt-ltb l 8 b, e) (closed h);
      }
