-- Two numbers, a name and an extension, each told by its end.
use Rattle.std.proofs.Common.{◌≡◌, ◌+◌, ◌<◌, ℕ, take, drop, get_or, Some, sym, ap, ◌∙◌, arith}
use Rattle.std.proofs.Math.Seq.{drop-drop, get_or-take}
use Rattle.laws.specs.Bytes.{little}
use Rattle.wire.proofs.NumberLaws.{four-at}
use Rattle.laws.proofs.Parts.{part_tail}
use Rattle.hits.specs.Results.{behind_name}
use Rattle.hits.specs.Reading.{zero_at}
use Rattle.hits.proofs.ResultLaws.{no_numbers, no_name, no_extension, behind_is, record_is}
use Rattle.hits.proofs.reading.record_at.Goals.{After-zero_at-2}
use Rattle.hits.proofs.reading.record_at.Goals as goal

pub returns-in_err-numbers : goal.returns-in_err-numbers
returns-in_err-numbers c =
    c.from_residual.ensures ∙ sym (no_numbers c.args.at c.args.bytes.now (omega (arith, c.in_err-numbers.ensures.cases)))

pub returns-in_err-namelen : goal.returns-in_err-namelen
returns-in_err-namelen c =
    let d = c.args.bytes.now in
    let e = c.in_ok-numbers.ensures.cases.1 in
    c.from_residual-in_err-namelen.ensures
    ∙ sym (no_name c.args.at d (sym (c.in_err-namelen.ensures.value ∙ ap zero_at e)))

-- it is ended, and the extension begins behind it
ended : (c : After-zero_at-2)
    → (zero_at (drop 8 c.args.bytes.now) ≡ Some c.in_ok-namelen.namelen)
    × (c.zero_at-2.result ≡ zero_at (behind_name c.args.bytes.now))
ended c =
    let d = c.args.bytes.now in
    let n = c.in_ok-namelen.namelen in
    let l = c.in_ok-numbers.names.now in
    let e = c.in_ok-numbers.ensures.cases.1 in
    let name = sym (c.in_ok-namelen.ensures.value ∙ ap zero_at e) in
    let behind : c.in_ok-behind.behind.now ≡ drop (n + 1) l =
    ap (drop 1) (sym c.in_ok-behind.ensures.cases.0 ∙ part_tail n l) ∙ drop-drop 1 n l in (
      name,
      c.zero_at-2.ensures.value
          ∙ ap zero_at (behind ∙ ap (drop (n + 1)) e ∙ behind_is c.args.at d n name),
    )

pub returns-in_err-extlen : goal.returns-in_err-extlen
returns-in_err-extlen c =
    let p = ended (goal.at.returns-in_err-extlen c).After-zero_at-2 in
    c.from_residual-in_err-extlen.ensures
    ∙ sym (no_extension c.args.at c.args.bytes.now c.in_ok-namelen.namelen p.0 (sym p.1 ∙ c.in_err-extlen.was))

pub returns : goal.returns
returns c =
    let p = ended (goal.at.returns c).After-zero_at-2 in
    let d = c.args.bytes.now in
    let is = record_is c.args.at d c.in_ok-namelen.namelen p.0 c.in_ok-extlen.extlen (sym p.1 ∙ c.in_ok-extlen.was) in
    let in_front : (k : ℕ) → k < 8 → get_or c.in_ok-numbers.numbers.now k 0 ≡ get_or d k 0 =
    λ k h. ap (λ l. get_or l k 0) c.in_ok-numbers.ensures.cases.0 ∙ get_or-take 8 d k 0 h in
    let index : c.from_le_bytes.result ≡ little (take 4 d) =
    omega (
      arith,
      c.from_le_bytes.ensures,
      four-at d 0,
      in_front 0 (omega arith),
      in_front 1 (omega arith),
      in_front 2 (omega arith),
      in_front 3 (omega arith),
    ) in
    let size : c.from_le_bytes-2.result ≡ little (take 4 (drop 4 d)) =
    omega (
      arith,
      c.from_le_bytes-2.ensures,
      four-at d 4,
      in_front 4 (omega arith),
      in_front 5 (omega arith),
      in_front 6 (omega arith),
      in_front 7 (omega arith),
    ) in
    rw (index, size) is
