-- The rows are those of the protocol's own log of the same calls.
use Prim.Native.Nat.{ℕ, zero, suc, ◌+◌}
use mathlib.Core.Path.{◌≡◌, refl, sym, ap, ap₂, ◌∙◌}
use mathlib.Core.List.{List, [], ◌∷◌, ◌++◌, map, append_assoc, append-nil}
use native.Mathlib.Omega.{arith}
use lib.ListN.{length, replicate}
use Rattle.protocol.specs.Outcomes.{Outcome}
use Rattle.protocol.specs.Calls.{fresh}
use Rattle.protocol.specs.Runs.{Call, Open, Close, Message, Ask, Made, World, outcome_of, area_after, step, run, start}
use Rattle.transcript.specs.Files.{event_at, count_from, count_of}
use Rattle.transcript.specs.Rows.{row_text}
use Rattle.transcript.specs.Text.{call_of, route_size, rows_from, all_rows}

-- the calls of these events
abbrev pub calls_of : List ℕ → List ℕ → List Call
calls_of file is = map (λ i. call_of (event_at file i)) is

-- a row for each call of a log, whose newest call stands first
unfoldable pub log_rows : List Made → List ℕ
log_rows [] = []
log_rows (d ∷ ds) = log_rows ds ++ row_text (length ds) d.outcome.answer d.outcome.to d.outcome.age

-- an outcome does not depend on the log
unlogged : (w : World) (c : Call) → outcome_of w c ≡ outcome_of (start w.state w.area) c
unlogged w (Open l) = refl
unlogged w (Close l) = refl
unlogged w (Message l m t a) = refl
unlogged w (Ask n text t a) = refl

module _ (file : List ℕ) where
  rows_logged : (k i : ℕ) (w : World) → length w.log ≡ i
      → log_rows (run w (calls_of file (count_from i k))).log ≡ log_rows w.log ++ rows_from file w.state
      w.area (count_from i k)
  unfolding rows_from log_rows
  rows_logged zero i w e = sym (append-nil (log_rows w.log))
  rows_logged (suc k) i w e =
      let c = call_of (event_at file i) in
      let n : length (step w c).log ≡ i + 1 = omega arith in
      let o = outcome_of w c in
      let row : List ℕ = row_text (length w.log) o.answer o.to o.age in
      rows_logged k (i + 1) (step w c) n
      ∙ append_assoc (log_rows w.log) row
      (rows_from file o.state (area_after c w.area o.route) (count_from (i + 1) k))
      ∙ ap (λ x. log_rows w.log ++ x)
      (ap₂ (λ (j : ℕ) (o : Outcome). row_text j o.answer o.to o.age ++ rows_from file o.state
      (area_after c w.area o.route) (count_from (i + 1) k)) e (unlogged w c))

  -- all rows of a file are the log of its calls, from a fresh state over a route area of zeros
  pub all_logged : log_rows (run (start (fresh route_size).state (replicate route_size 0))
      (calls_of file (count_from 0 (count_of file)))).log ≡ all_rows file
  unfolding all_rows log_rows
  all_logged = rows_logged (count_of file) 0 (start (fresh route_size).state (replicate route_size 0)) refl
