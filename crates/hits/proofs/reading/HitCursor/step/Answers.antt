-- Each answer has its case of the definition; a whole result lies in the payload, so that no sum of its places wraps.
use Rattle.std.proofs.Common.{◌≡◌, ◌+◌, ◌-◌, ◌≤◌, Some, Ok, length, sym, ap, ◌∙◌, arith}
use Rattle.hits.specs.Reading.{cursor_at, record_of, told_of, next_of}
use Rattle.hits.proofs.NextLaws.{next-short, next-ended, next-past, next-nothing, next-one, part_of}
use Rattle.hits.proofs.reading.HitCursor.step.Goals.{In-Some}
use Rattle.hits.proofs.reading.HitCursor.step.Goals as goal

pub returns-then-payload-lt-SMALLEST : goal.returns-then-payload-lt-SMALLEST
returns-then-payload-lt-SMALLEST c = sym (next-short c.args.self.now c.args.payload.now c.if-payload-lt-SMALLEST.true)

pub returns-then-self-eq0 : goal.returns-then-self-eq0
returns-then-self-eq0 c =
    sym (next-ended c.args.self.now c.args.payload.now c.if-payload-lt-SMALLEST.false c.if-self-eq0.true)

pub returns-then-end-self : goal.returns-then-end-self
returns-then-end-self c =
    sym (next-past c.args.self.now c.args.payload.now c.if-payload-lt-SMALLEST.false (omega arith) c.if-end-self.true)

-- the bytes that are read are those before the mark, from the cursor on
pub returns-in_default : goal.returns-in_default
returns-in_default c =
    let s = c.args.self.now in
    let p = c.args.payload.now in
    sym (next-nothing s p c.if-payload-lt-SMALLEST.false (omega arith)
    (sym (c.in_default.ensures ∙ ap (record_of s.at) (part_of s.at (length p - 16) p c.if-end-self.false))))

one : (c : In-Some)
    → let s = c.args.self.now in
    let r = c.in-Some.record in
    (told_of (Ok (Some r)) (cursor_at (r.extat + r.extlen + 1) (s.left - 1)) ≡ next_of s c.args.payload.now)
    × (r.extat + r.extlen + 1 + 16 ≤ length c.args.payload.now)
one c =
    let s = c.args.self.now in
    let p = c.args.payload.now in
    next-one s p c.if-payload-lt-SMALLEST.false (omega arith) c.in-Some.record
    (sym (c.in-Some.ensures ∙ ap (record_of s.at) (part_of s.at (length p - 16) p c.if-end-self.false)))

pub overflow_add-self : goal.overflow_add-self
overflow_add-self c = omega (arith, (one (goal.at.overflow_add-self c).In-Some).1)

pub overflow_add-self-2 : goal.overflow_add-self-2
overflow_add-self-2 c = omega (arith, (one (goal.at.overflow_add-self-2 c).In-Some).1)

pub returns : goal.returns
returns c = (one (goal.at.returns c).In-Some).0
