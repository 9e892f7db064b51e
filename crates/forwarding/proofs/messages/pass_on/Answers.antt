-- Each refusal makes the message not passable; else the copy with TTL and Hops stored is the one passed on.
use mathlib.Core.Path.{◌≡◌}
use mathlib.Core.Bool.{true}
use lib.ListN.{length-set, length-take}
use native.Mathlib.Omega.{arith}
use borrow.Author.Tests.{lt-leb, le-leb}
use Rattle.forwarding.specs.Messages.{passable}
use Rattle.forwarding.proofs.MessageLaws.{passed-stored}
use borrow.Author.Rules.{rules}
use Rattle.forwarding.proofs.messages.pass_on.Goals.{then-n-lt-HEADER_SIZE-via-then-n-lt-HEADER_SIZE}
use Rattle.forwarding.proofs.messages.pass_on.Goals.{then-n-lt-HEADER_SIZE-via-else-n-lt-HEADER_SIZE+then-m-n}
use Rattle.forwarding.proofs.messages.pass_on.Goals.{then-n-lt-HEADER_SIZE-via-else-n-lt-HEADER_SIZE+else-m-n+then-out-n}
use Rattle.forwarding.proofs.messages.pass_on.Goals as goal

pub returns-then-n-lt-HEADER_SIZE : goal.returns-then-n-lt-HEADER_SIZE
returns-then-n-lt-HEADER_SIZE c =
    elim c.then-n-lt-HEADER_SIZE.branch [
      | then-n-lt-HEADER_SIZE-via-then-n-lt-HEADER_SIZE w ↦ search (rules, lt-leb, le-leb)
      | then-n-lt-HEADER_SIZE-via-else-n-lt-HEADER_SIZE+then-m-n w ↦ search (rules, lt-leb, le-leb)
      | then-n-lt-HEADER_SIZE-via-else-n-lt-HEADER_SIZE+else-m-n+then-out-n w ↦ search (rules, lt-leb, le-leb)
    ]

pub slice_bounds-copy_onto-end : goal.slice_bounds-copy_onto-end
slice_bounds-copy_onto-end c =
    let x = c.args in
    omega (arith, length-take x.n x.m.now)

pub bounds-out-18 : goal.bounds-out-18
bounds-out-18 c = simp length-set (omega arith)

pub returns : goal.returns
returns c =
    let x = c.args in
    let fits : passable x.m.now x.n x.out.now ≡ true = search (rules, le-leb) in record {
      count = rw fits;
      bytes = rw fits
          (passed-stored x.m.now x.out.now _ x.n x.ttl x.hops (search rules) (search rules)
          (search rules) c.copy_onto.ensures);
    }
