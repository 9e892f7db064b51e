-- A number below 8 stays; any other gets 240 more, which stays within a byte.
use borrow.Author.Tests.{lt-ltb, le-ltb}
use Rattle.tablereader.proofs.numbers.as_byte.Goals as goal

pub returns-then-number-lt8 : goal.returns-then-number-lt8
returns-then-number-lt8 c = rw (lt-ltb _ _ c.if-number-lt8.true)

pub returns-else-number-lt8 : goal.returns-else-number-lt8
returns-else-number-lt8 c = rw (le-ltb _ _ c.if-number-lt8.false)
