-- A refusal writes nothing; else the results are laid where they belong, and where there are some, what stands around
-- them.
use mathlib.Core.Path.{◌≡◌, ap}
use native.Mathlib.Omega.{arith}
use lib.ListN.{length}
use borrow.Author.Rules.{rules}
use Rattle.laws.specs.Tests.{first_of}
use Rattle.answer.proofs.NotZero.{not_zero}
use Rattle.wire.specs.declared.Header.{Header}
use Rattle.namearea.proofs.GoodLaws.{listed}
use Rattle.answering.specs.declared.WrittenHit.{WrittenHit}
use Rattle.answering.specs.declared.HitsWritten.{HitsWritten}
use Rattle.answering.specs.Writing.{early_rules}
use Rattle.answerer.proofs.WriteLaws.{Lent, lent, Ways, early_refuses, found-ways}
use Rattle.answerer.proofs.write_within.Goals.{After-put_results-filled, In_ok-refusal}
use Rattle.answerer.proofs.write_within.Goals as goal

pub returns-in_err-refusal : goal.returns-in_err-refusal
returns-in_err-refusal c =
    let x = c.args in
    let d =
    early_refuses x.limit x.query.now x.names.now x.sizes.now x.from x.out.now _
    c.in_err-refusal.ensures (not_zero c.in_err-refusal.field-0.0) _ (search rules) in record {
      told = d.0;
      bytes = d.1;
    }

-- past it nothing is wrong
passed : (c : In_ok-refusal)
    → let x = c.args in
    0 ≡ first_of (early_rules x.limit x.query.now x.names.now (length x.sizes.now) (length x.out.now))
passed c = c.in_ok-refusal.ensures

known : (c : In_ok-refusal)
    → let x = c.args in
    Lent x.limit x.query.now x.names.now (length x.sizes.now) (length x.out.now)
known c =
    let x = c.args in
    lent x.limit x.query.now x.names.now (length x.sizes.now) (length x.out.now) (passed c)

pub query_text-requires : goal.query_text-requires
query_text-requires c = let k = (known c).asked in (k.size, k.whole, k.text)

pub put_results-filled-requires : goal.put_results-filled-requires
put_results-filled-requires c =
    let k = known (goal.at.put_results-filled-requires c).In_ok-refusal in
    ((listed _ k.good).few, k.enough, k.long)

-- what the results that were put come to
ways : (c : After-put_results-filled)
    → let x = c.args in
    Ways x.limit x.query.now x.names.now x.sizes.now x.from x.out.now
    c.put_results-filled.result.results
    c.put_results-filled.result.size
    c.put_results-filled.new.part
ways c =
    let x = c.args in
    found-ways x.limit x.query.now x.names.now x.sizes.now x.from x.out.now
    (passed (goal.at.After-put_results-filled c).In_ok-refusal)
    _ c.query_text.ensures
    _ c.matching_places-found.ensures
    _ _ _ c.put_results-filled.ensures

pub returns-in_err-require : goal.returns-in_err-require
returns-in_err-require c =
    let d = (ways (goal.at.returns-in_err-require c).After-put_results-filled).none (search rules) _ (search rules) in record {
      told = d.0;
      bytes = d.1;
    }

pub overflow_add-h : goal.overflow_add-h
overflow_add-h c =
    omega (arith, (known (goal.at.overflow_add-h c).In_ok-refusal).asked.hops, ap (λ (h : Header). h.hops) c.read_header-h.ensures, c.ranges.limit)

pub returns : goal.returns
returns c =
    let x = c.args in
    let fields = c.well_formed.1.1.1.1.0.1.1 in
    let d =
    (ways (goal.at.returns c).After-put_results-filled).some
    (search rules)
    (fields.1.0.1.0.1)
    (fields.1.1.1.0.1.0.1)
    _ (ap (λ (h : WrittenHit). the_told h) c.finish.ensures.told)
    _ c.query_number-number.ensures
    _ c.read_header-h.ensures
    _ c.finish.ensures.bytes in record {
      told = d.0;
      bytes = d.1;
    }
  where
    the_told : WrittenHit → HitsWritten
    the_told h = record { answer = 0; results = h.results; written = h.size }
