-- Each answer has its case of the definition; a whole result lies in the payload, so that no sum of its places wraps.
use Rattle.std.proofs.Common.{◌≡◌, ◌+◌, ◌-◌, ◌≤◌, Some, Ok, length, sym, ap, ◌∙◌, arith}
use Rattle.hits.specs.Reading.{cursor_at, record_of, told_of, next_of}
use Rattle.hits.proofs.NextLaws.{next-short, next-ended, next-past, next-nothing, next-one, part_of}
use Rattle.hits.proofs.reading.HitCursor.told.Goals.{In-Some}
use Rattle.hits.proofs.reading.HitCursor.told.Goals as goal

pub returns-then-payload-lt-SMALLEST : goal.returns-then-payload-lt-SMALLEST
returns-then-payload-lt-SMALLEST c =
    c.from.ensures ∙ sym (next-short c.args.self c.args.payload.now c.if-payload-lt-SMALLEST.true)

pub returns-then-left-eq0 : goal.returns-then-left-eq0
returns-then-left-eq0 c =
    c.from-then-left-eq0.ensures
    ∙ sym (next-ended c.args.self c.args.payload.now c.if-payload-lt-SMALLEST.false c.if-left-eq0.true)

pub returns-then-end-at : goal.returns-then-end-at
returns-then-end-at c =
    c.from-then-end-at.ensures
    ∙ sym (next-past c.args.self c.args.payload.now c.if-payload-lt-SMALLEST.false (omega arith) c.if-end-at.true)

pub returns-in_default : goal.returns-in_default
returns-in_default c =
    let s = c.args.self in
    let p = c.args.payload.now in
    c.from-in_default.ensures
    ∙ sym (next-nothing s p c.if-payload-lt-SMALLEST.false (omega arith)
    (sym (c.in_default.ensures ∙ ap (record_of s.at) (part_of s.at (length p - 16) p c.if-end-at.false))))

one : (c : In-Some)
    → let s = c.args.self in
    let r = c.in-Some.result in
    (told_of (Ok (Some r)) (cursor_at (r.extat + r.extlen + 1) (s.left - 1)) ≡ next_of s c.args.payload.now)
    × (r.extat + r.extlen + 1 + 16 ≤ length c.args.payload.now)
one c =
    let s = c.args.self in
    let p = c.args.payload.now in
    next-one s p c.if-payload-lt-SMALLEST.false (omega arith) c.in-Some.result
    (sym (c.in-Some.ensures ∙ ap (record_of s.at) (part_of s.at (length p - 16) p c.if-end-at.false)))

pub overflow_add-result : goal.overflow_add-result
overflow_add-result c = omega (arith, (one (goal.at.overflow_add-result c).In-Some).1)

pub overflow_add-result-2 : goal.overflow_add-result-2
overflow_add-result-2 c = omega (arith, (one (goal.at.overflow_add-result-2 c).In-Some).1)

pub returns : goal.returns
returns c = (one (goal.at.returns c).In-Some).0
