-- The next query after a list, without an expected table: demand 3 of the list with that call behind it, read with what
-- stands before the call.
-- Assumes nothing.
use Prim.Native.Nat.{ℕ, ◌-◌}
use mathlib.Core.Path.{◌≡◌, refl, sym, ap, ◌∙◌, subst}
use mathlib.Core.Bool.{true, false}
use mathlib.Core.Logic.{◌↔◌}
use mathlib.Core.List.{List, [], ◌∷◌, ◌++◌, append-nil}
use lib.Dec.{eqb}
use borrow.Author.Tests.{eqb-true, eq-eqb}
use Rattle.wire.specs.Header.{payload_of}
use Rattle.tables.specs.Tables.{settled}
use Rattle.protocol.specs.Outcomes.{Terms, terms_of}
use Rattle.protocol.specs.Queries.{usual_limit, text_in}
use Rattle.protocol.specs.Runs.{Same, Call, Message, Ask, World, FairCall, Fair, run, start}
use Rattle.protocol.specs.Expected.{Expected, expected}
use Rattle.protocol.specs.History.{updates_of, speaks}
use Rattle.protocol.specs.Demand3.{Stops, Stopped, Withheld, life_left, StandsAt, AgreesAt}
use Rattle.protocol.specs.Periods.{StoppedNow, WithheldNow, QuietPeriods}
use Rattle.protocol.proofs.Demand3.{demand3}

-- while the line is open, what withholds is what stands
module _ (L room : ℕ) (w : World) (q : StandsAt L room w) (o : (expected L room w.log).live ≡ true) where
  abbrev e : Expected
  e = expected L room w.log

  withheld-now : (text : List ℕ) (ttl : ℕ) → Withheld e text ttl ↔ WithheldNow w L text ttl
  withheld-now text ttl =
      let s : eqb e.held.table.mark settled ≡ speaks (updates_of L w.log)
      = ap (λ m. eqb m settled) (sym q.mark) ∙ q.speaking in
      let same : StoppedNow w L text ttl ≡ Stopped e text ttl
      = λ i. Stops (q.entries o i) (q.long o i) (q.infinity o i) text ttl in (
        (λ v. (sym s ∙ eq-eqb e.held.table.mark settled v.0, subst (λ (X : Type 0). X) (sym same) v.1)),
        (λ v. (eqb-true e.held.table.mark settled (s ∙ v.0), subst (λ (X : Type 0). X) same v.1)),
      )

fair_joined : (room : ℕ) (bs ds : List Call) → Fair room bs → Fair room ds → Fair room (bs ++ ds)
fair_joined room [] ds f g = g
fair_joined room (c ∷ bs) ds f g = (f.0, fair_joined room bs ds f.1 g)

pub quiet_periods : QuietPeriods
quiet_periods s area L cs eight order seven closed fair =
    record {
      message = λ l m t z k.
          let x = ((agrees (Message l m t Same) tt).1 z k).exactly in
          let text : List ℕ = text_in (payload_of m) in
          let ttl : ℕ = life_left usual_limit m - 1 in (
            (λ b. let v = x.0 b in
                (q.live ∙ v.0.0, v.0.1, v.0.2, λ n. v.1 ((now v.0.0 text ttl).1 n))),
            (λ v. let o = sym q.live ∙ v.0 in x.1 ((o, v.1, v.2), λ n. v.3 ((now o text ttl).0 n))),
          );
      asks = λ number text out z.
          let x = (agrees (Ask number text (terms out) Same) tt z).exactly in (
            (λ b. let v = x.0 b in (q.live ∙ v.0, λ n. v.1 ((now v.0 text usual_limit).1 n))),
            (λ v. let o = sym q.live ∙ v.0 in x.1 (o, λ n. v.1 ((now o text usual_limit).0 n))),
          );
    }
  where
    w : World
    w = run (start s area) cs

    -- an own query reads neither clock nor own pong
    terms : ℕ → Terms
    terms out = terms_of 0 (record { port = 0; address = []; files = 0; kilobytes = 0; calls = false }) out

    agrees : (c : Call) → FairCall s.room c → AgreesAt usual_limit L s.room w c
    agrees c f =
        (demand3 s area L (cs ++ (c ∷ [])) eight order seven closed (fair_joined s.room cs (c ∷ []) fair (f, tt))
        ).calls cs c [] refl

    q : StandsAt L s.room w
    q = (demand3 s area L cs eight order seven closed fair).stands cs [] (sym (append-nil cs))

    now : (expected L s.room w.log).live ≡ true
        → (text : List ℕ) (ttl : ℕ) → Withheld (expected L s.room w.log) text ttl ↔ WithheldNow w L text ttl
    now = withheld-now L s.room w q
