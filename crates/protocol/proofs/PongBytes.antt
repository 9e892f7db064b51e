-- The bytes that answer a ping are pongs, each with the ping's number and at most 14 bytes of payload.
-- Assumes nothing.
use Prim.Native.Nat.{ℕ, ◌≤◌, max}
use native.Mathlib.Omega.{arith}
use mathlib.Core.Path.{◌≡◌, refl, ◌∙◌}
use mathlib.Core.Bool.{Bool, true, ◌||◌}
use mathlib.Core.List.{List, [], ◌∷◌}
use lib.Dec.{eqb, leb}
use lib.ListN.{length, get_or, length-append}
use borrow.Author.Tests.{leb-true, le-leb, eqb-true}
use Rattle.laws.specs.Tests.{all}
use Rattle.laws.specs.Ring.{kept_places}
use Rattle.laws.proofs.Refusals.{and_fst, and_snd, all_of, get_d_any, all_weaken, all_map}
use Rattle.wire.specs.Header.{header_in, hops_of, number_of}
use Rattle.protocol.specs.declared.Pong.{Pong}
use Rattle.protocol.specs.declared.Line.{Line}
use Rattle.protocol.specs.declared.Own.{Own}
use Rattle.protocol.specs.State.{Station, line_at}
use Rattle.protocol.specs.Lines.{nowhere, pong_capacity, stored_pongs}
use Rattle.protocol.specs.Outcomes.{Terms}
use Rattle.protocol.specs.Pings.{is_probe, stored_sent, pong_bytes, one_hop_more, stored_bytes, own_pong, pongs_sent}
use Rattle.protocol.specs.Pings.{pongs_back}
use Rattle.protocol.specs.Kept.{Sized, sized_line}
use Rattle.protocol.specs.Written.{Writes}
use Rattle.protocol.proofs.Written.{writes_none, writes_one, writes_append, writes_choice}
use Rattle.protocol.proofs.Pongs.{all-sent}

-- a stored pong has 14 bytes at most
abbrev fits : Pong → Bool
fits p = leb (length p.bytes) 14

fits-stored : (x : Line) → all fits x.pongs ≡ true → all fits (stored_pongs x) ≡ true
unfolding stored_pongs
fits-stored x h =
    let d : Pong = record { bytes = []; hops = 0; clock = 0 } in
    let places : List ℕ = kept_places pong_capacity x.pongnext x.pongcount in
    all_map (λ p. get_or x.pongs p d) fits places
    ∙ all_of (λ p. fits (get_or x.pongs p d)) (λ p. get_d_any fits x.pongs p d h refl) places

fourteen : (p : Pong) → eqb (length p.bytes) 14 ≡ true → fits p ≡ true
fourteen p q =
    let n : length p.bytes ≡ 14 = eqb-true (length p.bytes) 14 q in le-leb (length p.bytes) 14 (omega arith)

module _ (s : Station) (z : Sized s) where
  fits_line : (k : ℕ) → all fits (stored_pongs (line_at s k)) ≡ true
  fits_line k =
      fits-stored (line_at s k)
      (get_d_any (λ (x : Line). all fits x.pongs) s.lines k nowhere
      (all_weaken sized_line (λ x. all fits x.pongs) s.lines
      (λ x e. all_weaken (λ p. eqb (length p.bytes) 14) fits x.pongs fourteen
      (and_snd (eqb (length x.pongs) pong_capacity) (all (λ p. eqb (length p.bytes) 14) x.pongs) e))
      z.pongs)
      refl)

  module _ (m : List ℕ) (sixteen : length (number_of m) ≡ 16) where
    writes_stored : (ps : List Pong) → all fits ps ≡ true → Writes 0x01 (stored_bytes (number_of m) (hops_of m) ps)
    writes_stored [] h = writes_none 0x01
    writes_stored (p ∷ ps) h =
        let b : length p.bytes ≤ 14 = leb-true (length p.bytes) 14 (and_fst (fits p) (all fits ps) h) in
        writes_append 0x01 (pong_bytes (number_of m) (hops_of m) (one_hop_more p.hops) p.bytes) _
        (writes_one (number_of m) 0x01 (max 1 (hops_of m)) (one_hop_more p.hops) p.bytes sixteen (omega arith))
        (writes_stored ps (and_snd (fits p) (all fits ps) h))

    own-length : (own : Own) → length own.address ≡ 4 → length (own_pong own) ≡ 14
    own-length own e = simp length-append (omega arith)

    pub writes_pongs : (l : ℕ) (t : Terms) → length t.own.address ≡ 4 → Writes 0x01 (pongs_back s.lines l t m)
    unfolding pongs_sent
    writes_pongs l t e =
        let n : length (own_pong t.own) ≡ 14 = own-length t.own e in
        let probe : Bool = is_probe (header_in m) in
        let sent : List Pong = stored_sent s.lines l t.clock in
        writes_append 0x01 _ _
        (writes_choice 0x01 (probe || t.own.calls) _ []
        (writes_one (number_of m) 0x01 (max 1 (hops_of m)) 0 (own_pong t.own) sixteen (omega arith))
        (writes_none 0x01))
        (writes_choice 0x01 probe [] (stored_bytes (number_of m) (hops_of m) sent)
        (writes_none 0x01)
        (writes_stored sent (all-sent fits s.lines fits_line l t.clock)))
