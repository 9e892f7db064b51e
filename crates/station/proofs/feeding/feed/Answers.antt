-- What is read off the lines and the bytes, and then one of the ends: refused, waiting, shut, or a whole message.
-- Assumes nothing.
use native.Mathlib.Omega.{arith}
use mathlib.Core.Path.{◌≡◌, refl, sym, ap, ap₂, ◌∙◌}
use mathlib.Core.Bool.{true, false}
use Prim.Native.Nat.{ℕ, ◌+◌, ◌-◌}
use lib.Dec.{eqb}
use lib.ListN.{length}
use borrow.Author.Tests.{eqb-true}
use Rattle.laws.specs.Tests.{first_of}
use Rattle.answer.specs.Numbers.{number_of, answer_of}
use Rattle.answer.proofs.Apart.{never_zero, done_is}
use Rattle.protocol.specs.Calls.{extent_rules}
use Rattle.protocol.specs.Outcomes.{terms_of}
use Rattle.protocol.specs.declared.Line.{Line}
use Rattle.station.specs.declared.lines.View.{View}
use Rattle.station.specs.Feeding.{quiet_feeding}
use Rattle.station.proofs.FeedLaws.{Found, feed-refused, few-held, unfinished-fits, feed-unfinished}
use Rattle.station.proofs.FeedLaws.{feed-ends, feed-taken, too_large}
use Rattle.station.proofs.feeding.feed.Given.{Over}
use Rattle.station.proofs.feeding.feed.Goals.{After-before_bytes-early, In_default, Then-starts, In-Err-extent}
use Rattle.station.proofs.feeding.feed.Goals as goal

found : (g : Over) (c : After-before_bytes-early g) → (
    let a = c.args in
    Found a.s.order (g.K.Known.lookup a.s.known) a.room a.lines a.line a.bytes.now a.held.now
    (terms_of a.clock a.own (length a.out.now)) a.route.now a.out.now
    c.read_lines-v.result c.read_lines-v.result.line.pending.count
    c.joined_header-h.result
    c.min.result (first_of (extent_rules c.min.result c.joined_header-h.result.size)) (answer_of c.before_bytes-early.result)
    )
found g c =
    record {
      view = c.read_lines-v.ensures;
      count = ap (λ (v : View). v.line.pending.count) c.read_lines-v.ensures;
      header = c.joined_header-h.ensures;
      there = c.min.ensures;
      begun = refl;
      refusal = rw c.starts.ensures at c.before_bytes-early.ensures;
    }

pub returns-in-Err : goal.returns-in-Err
returns-in-Err g c =
    feed-refused (found g (goal.at.returns-in-Err g c).After-before_bytes-early)
    (λ z. never_zero c.in-Err.refusal (sym (ap answer_of c.in-Err.is) ∙ z))
    (c.quiet_feeding.ensures ∙ ap (λ n. quiet_feeding n 0 c.read_lines-v.result.line false) (c.from.ensures ∙ sym (ap answer_of c.in-Err.is)))

-- where nothing refuses it
unrefused : (g : Over) (c : In_default g) → answer_of c.before_bytes-early.result ≡ 0
unrefused g c = done_is c.before_bytes-early.result c.in_default.not-Err

pub overflow_add-all : goal.overflow_add-all
overflow_add-all g c =
    let good = c.well_formed.1.1.1 in
    omega (
      arith,
      few-held (found g (goal.at.overflow_add-all g c).After-before_bytes-early)
          (unrefused g (goal.at.overflow_add-all g c).In_default),
      good.1.1.1.0,
    )

-- where the bytes end before their message does
Part : (g : Over) (c : Then-starts g) → ℕ
Part g c = let x = c.read_lines-v.result.line in
    first_of (extent_rules (x.pending.count + length c.args.bytes.now) c.joined_header-h.result.size)

ends_early : (g : Over) (c : Then-starts g) → eqb (Part g c) 4 ≡ true
unfolding Part
ends_early g c = sym c.starts-2.ensures ∙ c.if-starts.true

not_0 : (g : Over) (c : Then-starts g) → Part g c ≡ 0 → ⊥
unfolding Part
not_0 g c z = omega (arith, eqb-true (Part g c) 4 (ends_early g c), z)

pub waiting-requires : goal.waiting-requires
unfolding Part
waiting-requires g c =
    let t = (goal.at.waiting-requires g c).Then-starts in
    (unfinished-fits (found g (goal.at.waiting-requires g c).After-before_bytes-early)
    (unrefused g (goal.at.waiting-requires g c).In_default) refl (not_0 g t)).0 (ends_early g t)

pub returns-then-starts : goal.returns-then-starts
unfolding Part
returns-then-starts g c =
    let t = (goal.at.returns-then-starts g c).Then-starts in
    feed-unfinished (found g (goal.at.returns-then-starts g c).After-before_bytes-early)
    (unrefused g (goal.at.returns-then-starts g c).In_default) refl (not_0 g t)
    (rw (ends_early g t) c.waiting.ensures.feeding) (rw (ends_early g t) c.waiting.ensures.area)

pub taken-requires : goal.taken-requires
taken-requires g c =
    let f = found g (goal.at.taken-requires g c).After-before_bytes-early in
    record {
      l_bound = (omega arith, f.view);
      ends = feed-ends f (unrefused g (goal.at.taken-requires g c).In_default) c.in-Ok.ensures refl;
    }

pub returns-in-Ok : goal.returns-in-Ok
returns-in-Ok g c =
    feed-taken (found g (goal.at.returns-in-Ok g c).After-before_bytes-early)
    (unrefused g (goal.at.returns-in-Ok g c).In_default) c.in-Ok.ensures refl c.taken.ensures

-- where they do not, and do not make a message either
larger : (g : Over) (c : In-Err-extent g) → eqb (number_of c.in-Err-extent.refusal) 4 ≡ false
larger g c = ap (λ n. eqb n 4) c.in-Err-extent.ensures ∙ sym c.starts-2.ensures ∙ c.if-starts.false

pub overflow_sub-count : goal.overflow_sub-count
overflow_sub-count g c =
    (unfinished-fits (found g (goal.at.overflow_sub-count g c).After-before_bytes-early)
    (unrefused g (goal.at.overflow_sub-count g c).In_default) c.in-Err-extent.ensures
    (never_zero c.in-Err-extent.refusal)).1 (larger g (goal.at.overflow_sub-count g c).In-Err-extent)

pub returns-in-Err-extent : goal.returns-in-Err-extent
returns-in-Err-extent g c =
    let other = larger g (goal.at.returns-in-Err-extent g c).In-Err-extent in
    let f = found g (goal.at.returns-in-Err-extent g c).After-before_bytes-early in
    let none = unrefused g (goal.at.returns-in-Err-extent g c).In_default in
    let five = too_large f none c.in-Err-extent.ensures (never_zero c.in-Err-extent.refusal) other in
    let x = c.read_lines-v.result.line in
    feed-unfinished f none c.in-Err-extent.ensures (never_zero c.in-Err-extent.refusal)
    (rw other (c.quiet_feeding-in-Err-extent.ensures
    ∙ ap₂ (λ n (y : Line). quiet_feeding n (23 - x.pending.count) y false) (c.from-in-Err-extent.ensures ∙ five)
    c.shut_line.ensures))
    (rw other refl)
