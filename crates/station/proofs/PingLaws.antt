-- Pings and pongs as the code hands them on, from what the crate pinging ensures.
-- Assumes nothing.
use Prim.Native.Nat.{ℕ, ◌+◌, ◌-◌, ◌≤◌}
use native.Mathlib.Omega.{arith}
use mathlib.Core.Path.{◌≡◌, refl, sym, ap, ap₂, ◌∙◌}
use mathlib.Core.Bool.{Bool, false, cond}
use mathlib.Core.List.{List, []}
use lib.ListN.{length, take, drop, length-drop}
use lib.Seq.{length-take-le}
use borrow.Author.Tests.{le-leb, ltb-false}
use Rattle.laws.specs.Parts.{over}
use Rattle.laws.specs.Tests.{first_of}
use Rattle.laws.proofs.Refusals.{no-refusal}
use Rattle.wire.specs.declared.Header.{Header}
use Rattle.wire.specs.Header.{header_in, size_of, payload_of, number_of}
use Rattle.wire.proofs.HeaderLaws.{payload-part}
use Rattle.protocol.specs.declared.Line.{Line}
use Rattle.protocol.specs.declared.Own.{Own}
use Rattle.protocol.specs.declared.Report.{Report}
use Rattle.protocol.specs.Lines.{line_in, with_pong}
use Rattle.protocol.specs.State.{line_only}
use Rattle.protocol.specs.Outcomes.{Terms, terms_of, Step, quiet}
use Rattle.protocol.specs.Pings.{
  is_probe,
  ping_rules,
  pongs_sent,
  pongs_back,
  time_kept,
  back_to,
  ping_taken,
  ping_step,
  pong_rules,
  arrived_pong,
  pong_step,
}
use Rattle.pinging.specs.Filled.{number_filled, pong_filled}
use Rattle.pinging.specs.Sending.{pongs_written}
use Rattle.pinging.proofs.Theorems.{number_is, pong-is}
use Rattle.station.specs.declared.actions.Action.{Action}
use Rattle.station.specs.Actions.{action_of, quiet_report, quiet_action, Does, Whole}
use Rattle.station.proofs.ActionLaws.{sent_in, step-refused, step-taken}

-- ---- a ping

module _ (lines : List Line) (l : ℕ) (x : Line) (ex : x ≡ line_in lines l) (h : Header) (clock : ℕ) (own : Own)
    (m out area : List ℕ)
    (p : Whole h m) (room : 4119 ≤ length out)
    {a : ℕ} (e : a ≡ first_of (ping_rules x.pinged x.pingtime clock h)) where
  abbrev terms : Terms
  terms = terms_of clock own (length out)

  abbrev step : Step
  step = ping_step lines l terms m area

  ping-number : a ≡ first_of (ping_rules (line_in lines l).pinged (line_in lines l).pingtime clock (header_in m))
  ping-number = e ∙ ap₂ (λ (x : Line) (h : Header). first_of (ping_rules x.pinged x.pingtime clock h)) ex
      p.header

  pub ping-refused : {act : Action} → (a ≡ 0 → ⊥) → act ≡ quiet_action a x → Does step act out out
  unfolding ping_step
  ping-refused z ea =
      step-refused _ (line_in lines l) area (ping_taken lines l terms m area) out ping-number z
      (ea ∙ ap (quiet_action a) ex)

  module _ (z : a ≡ 0) {number : List ℕ} (en : number ≡ number_filled m) {probe : Bool} (ep : probe ≡ is_probe h) where
    -- the pongs that are written
    sent_is : pongs_written (length out) lines l clock own number h.hops probe ≡ pongs_back lines l terms m
    sent_is =
        ap (λ b. cond b (pongs_sent lines l clock own number h.hops probe) []) (le-leb 407 (length out) (omega arith))
        ∙ ap₂ (λ n b. pongs_sent lines l clock own n h.hops b) (en ∙ number_is m (omega (arith, p.whole))) ep
        ∙ ap (λ (h : Header). pongs_sent lines l clock own (number_of m) h.hops (is_probe h)) p.header

    pub ping-done : {w : ℕ} {to : List Bool} {y : Line} {q : Report} {out' : List ℕ}
        → w ≡ length (pongs_written (length out) lines l clock own number h.hops probe)
        → out' ≡ over 0 (pongs_written (length out) lines l clock own number h.hops probe) out
        → to ≡ back_to w l → y ≡ time_kept x probe clock → q ≡ quiet_report 0
        → Does step (record { report = sent_in q w to; line = y; remember = false; answered = false }) out out'
    unfolding ping_step
    ping-done {w} {to} {y} ew eo et ey eq =
        let w-is : w ≡ length (pongs_back lines l terms m) = ew ∙ ap length sent_is in
        let probe-is : probe ≡ is_probe (header_in m) = ep ∙ ap is_probe p.header in
        step-taken _ (line_in lines l) area (ping_taken lines l terms m area) out ping-number z
        (record {
          action = ap
              (λ (q : Report). record { report = sent_in q w to; line = y; remember = false; answered = false }) eq
              ∙ rw (et, ey, w-is, probe-is, ex);
          output = eo ∙ ap (λ b. over 0 b out) sent_is;
        })

-- ---- a pong

module _ (x : Line) (h : Header) (clock : ℕ) (m area : List ℕ) (p : Whole h m)
    {a : ℕ} (e : a ≡ first_of (pong_rules h)) where
  pong-number : a ≡ first_of (pong_rules (header_in m))
  pong-number = e ∙ ap (λ (h : Header). first_of (pong_rules h)) p.header

  abbrev stored : Step
  stored = quiet 0 (line_only (with_pong x (arrived_pong clock m))) area

  pub pong-refused : {act : Action} → (a ≡ 0 → ⊥) → act ≡ quiet_action a x → act ≡ action_of (pong_step x clock m area)
  unfolding pong_step
  pong-refused z ea = (step-refused _ x area stored [] pong-number z ea).action

  payload-long : length (payload_of m) ≡ size_of m
  payload-long = length-take-le (size_of m) (drop 23 m) (omega (arith, length-drop 23 m, p.whole))

  -- its payload has 14 bytes
  long : a ≡ 0 → 14 ≤ length (payload_of m)
  long z =
      let r = no-refusal (pong_rules h) refl (sym e ∙ z) in
      omega (arith, ltb-false h.size 14 r.0, ap (λ (h : Header). h.size) p.header, payload-long)

  pub pong-done : (z : a ≡ 0) {bytes : List ℕ} {y : Line} {act : Action}
      → bytes ≡ pong_filled (take (23 + h.size - 23) (drop 23 m))
      → y ≡ with_pong x (record { bytes = bytes; hops = h.hops; clock = clock }) → act ≡ quiet_action 0 y
      → act ≡ action_of (pong_step x clock m area)
  unfolding pong_step
  pong-done z {bytes} eb ey ea =
      let es = ap (λ (h : Header). h.size) p.header in
      let bytes-are : bytes ≡ take 14 (payload_of m) = eb ∙ ap pong_filled (payload-part m h.size es)
      ∙ pong-is (payload_of m) (long z) in
      let y-is = ey ∙ ap₂ (λ b (h : Header). with_pong x (record { bytes = b; hops = h.hops; clock = clock }))
      bytes-are p.header in
      (step-taken _ x area stored [] pong-number z
      (record { action = ea ∙ ap (quiet_action 0) y-is; output = refl })).action
