-- Each return has what its test showed.
use Rattle.forwarding.proofs.messages.pass_if.Goals as goal

pub returns-then-not-some : goal.returns-then-not-some
returns-then-not-some c = let e = c.if-not-some.true in record {
  count = rw e;
  bytes = rw e;
}

pub returns : goal.returns
returns c =
    let e = c.if-not-some.false in
    record {
      count = rw e c.pass_on.ensures.count;
      bytes = rw e c.pass_on.ensures.bytes;
    }
