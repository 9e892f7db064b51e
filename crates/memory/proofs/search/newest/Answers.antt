-- What is left after i turns, behind what was passed, is what there is among the n before `from`.
use Prim.Native.Nat.{◌+◌, ◌-◌}
use mathlib.Core.Path.{◌≡◌, sym, ap, ◌∙◌}
use native.Mathlib.Omega.{arith}
use lib.ListN.{length, get_or}
use borrow.Author.Rules.{rules}
use borrow.Author.Tests.{eq-eqb, ne_eqb}
use Rattle.protocol.specs.Memory.{memory_of, number_from, same_number, query_at, At, pick_found, lookup_of}
use Rattle.memory.proofs.SearchLaws.{left_of, left_end, left-turn}
use Rattle.memory.proofs.search.newest.Goals.{In-loop-i, else-lo-p-via-then-lo-p+else-unwrap_or-b, else-lo-p-via-else-lo-p}
use Rattle.memory.proofs.search.newest.Goals as goal

-- the query at hand is the one, or those behind it decide
turn : (c : In-loop-i)
    → (let a = c.args in
    let ring = memory_of a.lo.now a.hi.now a.asker.now a.hits.now 0 0 in
    let left = left_of (query_at ring) (length a.lo.now) (number_from a.a a.b) in
    let i = c.loop-i.i in
    let q = query_at ring (a.from - 1 - i) in
    pick_found (same_number q.number (number_from a.a a.b)) (At (a.passed + i) q.asker q.hits)
    (left (a.from - (i + 1)) (a.n - (i + 1)) (a.passed + (i + 1)))
    ≡ left a.from a.n a.passed)
turn c =
    let a = c.args in
    let l = c.loop-i in
    let ring = memory_of a.lo.now a.hi.now a.asker.now a.hits.now 0 0 in
    sym
    (left-turn (query_at ring) (length a.lo.now) (number_from a.a a.b) a.from a.n a.passed l.i
    (search rules) (search rules) (search rules))
    ∙ l.invariant

pub returns-then-unwrap_or-b : goal.returns-then-unwrap_or-b
returns-then-unwrap_or-b c =
    let a = c.args in
    let p = a.from - 1 - c.loop-i.i in
    let high : c.unwrap_or.result ≡ get_or a.hi.now p 0 = search rules in
    let who : c.unwrap_or-then-unwrap_or-b.result ≡ get_or a.asker.now p 0 = search rules in
    let times : c.unwrap_or-then-unwrap_or-b-2.result ≡ get_or a.hits.now p 0 = search rules in
    let same = sym high ∙ c.if-unwrap_or-b.true in
    let e = rw (eq-eqb _ _ c.if-lo-p.true, eq-eqb _ _ same) at (turn (goal.at.returns-then-unwrap_or-b c).In-loop-i) in
    rw (← e, who, times)

pub loop-i-preserved : goal.loop-i-preserved
loop-i-preserved c =
    let t = turn (goal.at.loop-i-preserved c).In-loop-i in
    elim c.else-lo-p.branch [
      | else-lo-p-via-then-lo-p+else-unwrap_or-b w ↦
          let high : w.unwrap_or.result ≡ get_or c.args.hi.now (c.args.from - 1 - c.loop-i.i) 0 = search rules in
          rw (eq-eqb _ _ w.if-lo-p.true, ne_eqb _ _ (λ e. w.if-unwrap_or-b.false (high ∙ e))) at t
      | else-lo-p-via-else-lo-p w ↦ rw (ne_eqb _ _ w.if-lo-p.false) at t
    ]

pub returns : goal.returns
returns c =
    let a = c.args in
    let l = c.loop-i in
    let ring = memory_of a.lo.now a.hi.now a.asker.now a.hits.now 0 0 in
    let e =
    left_end (query_at ring) (length a.lo.now) (number_from a.a a.b) (a.from - l.i) (a.n - l.i)
    (a.passed + l.i) (omega arith) in
    ap lookup_of (sym e ∙ l.invariant)
