-- The front of a payload in words.
use Prim.Native.Nat.{ℕ, ◌+◌, ◌*◌, ◌≤◌, ◌<◌}
use mathlib.Core.Path.{◌≡◌, ap, ◌∙◌}
use mathlib.Core.List.{List, [], ◌∷◌}
use native.Mathlib.Decide.{dec_le}
use native.Mathlib.Omega.{arith}
use lib.ListN.{length, get_or}
use Rattle.laws.specs.Bytes.{little}
use Rattle.wire.proofs.NumberLaws.{four-at}
use Rattle.hits.specs.Reading.{beginning}
use Rattle.hits.specs.Words.{HeadFields, HeadExactly}
use Rattle.hits.proofs.HeadLaws.{begin-short, begin-taken, port-bytes, address-bytes}

module _ (p : List ℕ) where
  refused : length p < 27 → (beginning p).answer ≡ 6
  refused h = ap (λ b. b.answer) (begin-short p h)

  taken : 27 ≤ length p → (beginning p).answer ≡ 0
  taken h = ap (λ b. b.answer) (begin-taken p h)

  six : Dec (27 ≤ length p) → (beginning p).answer ≡ 6 → length p < 27
  six (yes h) e = absurd (omega (arith, taken h))
  six (no h) e = omega arith

  zeros : Dec (27 ≤ length p) → (beginning p).answer ≡ 0 → 27 ≤ length p
  zeros (yes h) e = h
  zeros (no h) e = let l : length p < 27 = omega arith in absurd (omega (arith, refused l))

  fields : 27 ≤ length p → HeadFields p
  fields h =
      let e = begin-taken p h in
      let port : little (get_or p 1 0 ∷ get_or p 2 0 ∷ []) ≡ get_or p 1 0 + 256 * get_or p 2 0 = omega arith in
      let speed : little (get_or p 7 0 ∷ get_or p 8 0 ∷ get_or p 9 0 ∷ get_or p 10 0 ∷ [])
      ≡ get_or p 7 0 + 256 * (get_or p 8 0 + 256 * (get_or p 9 0 + 256 * get_or p 10 0))
      = omega arith in
      record {
        results = ap (λ b. b.results) e;
        port = ap (λ b. b.port) e ∙ ap little (port-bytes p h) ∙ port;
        address = ap (λ b. b.address) e ∙ address-bytes p h;
        speed = ap (λ b. b.speed) e ∙ four-at p 7 ∙ speed;
        mark = omega (arith, ap (λ b. b.markat) e);
        at = ap (λ b. b.cursor.at) e;
        left = ap (λ b. b.cursor.left) e;
      }

pub head-exactly : HeadExactly
head-exactly p =
    record {
      short = (six p (dec_le 27 (length p)), refused p);
      taken = (zeros p (dec_le 27 (length p)), taken p);
      nothing = begin-short p;
      fields = fields p;
    }
