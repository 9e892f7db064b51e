-- Of two pings of a line that are taken the second comes a second later; eleven pongs at most answer a ping; and a
-- message that has its first bytes gives just these.
-- Assumes nothing.
use Rattle.std.proofs.Common.{◌≡◌, ℕ, ◌+◌, ◌*◌, ◌≤◌, Bool, true, false, cond, not, ◌&&◌, ◌||◌, eqb, ltb, leb, List, [], ◌∷◌, length, take, replicate, refl, arith, length-take, ltb-false, ne_eqb}
use Rattle.laws.specs.Tests.{first_of}
use Rattle.laws.proofs.Over.{copied-full}
use Rattle.wire.specs.declared.Header.{Header}
use Rattle.wire.specs.Header.{number_of}
use Rattle.protocol.specs.declared.Line.{Line}
use Rattle.protocol.specs.declared.Own.{Own}
use Rattle.protocol.specs.Lines.{elapsed}
use Rattle.protocol.specs.Pings.{is_probe, keep_if, is_fresh, walk, stored_sent, ping_rules, time_kept}
use Rattle.pinging.specs.Filled.{number_filled, pong_filled}
use Rattle.pinging.specs.Sending.{pong_count, count_written}

-- a ping that is no probe, on a line with a kept time, e ms later
pub timed : (time clock e : ℕ) (h : Header) → (h.ttl ≡ 0 → ⊥) → is_probe h ≡ false → e ≡ elapsed clock time
    → first_of (ping_rules true time clock h) ≡ cond (ltb e 1000) 13 0
timed time clock e h lives other at = rw (ne_eqb h.ttl 0 lives, other, at)

-- a ping that is no probe was taken at the clock `first`, and so is one at `second`: at least 1,000 ms later
pub next-apart : (x : Line) (first second : ℕ) (h : Header) → is_probe h ≡ false
    → first_of (ping_rules (time_kept x false first).pinged (time_kept x false first).pingtime second h) ≡ 0
    → 1000 ≤ elapsed second first
next-apart x first second h o e = go (eqb h.ttl 0) (is_probe h) (ltb (elapsed second first) 1000) refl o e
  where
    go : (a b d : Bool) → ltb (elapsed second first) 1000 ≡ d → b ≡ false
        → first_of ((a, 8) ∷ (not b && (true && d), 13) ∷ []) ≡ 0 → 1000 ≤ elapsed second first
    go true b d q o e = absurd (omega arith)
    go false true d q o e = let z : ◌≡◌ {A = ℕ} 0 1 = cc in absurd (omega arith)
    go false false true q o e = absurd (omega arith)
    go false false false q o e = ltb-false (elapsed second first) 1000 q

-- ten stored pongs at most, and the own one besides: eleven, 407 bytes
module _ (lines : List Line) (l clock : ℕ) (own : Own) (probe : Bool) where
  stored-ten : length (stored_sent lines l clock) ≤ 10
  stored-ten = let e = length-take 10 (keep_if (is_fresh clock) (walk lines l)) in omega arith

  pub most-eleven : (room : ℕ) → count_written room lines l clock own probe ≤ 11
  unfolding pong_count
  most-eleven room = go (leb 407 room) (probe || own.calls) probe
    where
      go : (a b c : Bool) → cond a (cond b 1 0 + cond c 0 (length (stored_sent lines l clock))) 0 ≤ 11
      go false b c = omega arith
      go true true true = omega arith
      go true true false = let e = stored-ten in omega arith
      go true false true = omega arith
      go true false false = let e = stored-ten in omega arith

  pub bytes_most : (room r : ℕ) → r ≡ 37 * count_written room lines l clock own probe → r ≤ 407
  bytes_most room r e = let h = most-eleven room in omega arith

-- the number of a message of 16 bytes or more, and what is stored of a payload of 14 or more
pub number_is : (m : List ℕ) → 16 ≤ length m → number_filled m ≡ number_of m
number_is m h = copied-full m (replicate 16 0) h

pub pong-is : (payload : List ℕ) → 14 ≤ length payload → pong_filled payload ≡ take 14 payload
pong-is payload h = copied-full payload (replicate 14 0) h
