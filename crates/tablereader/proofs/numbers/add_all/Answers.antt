-- Numbers of 4 bits go to `add_nibbles`; otherwise they have 8, and each byte is a number as it stands.
use Rattle.tables.proofs.NumberLaws.{eight, numbers-whole}
use Rattle.tablereader.proofs.numbers.add_all.Goals as goal

pub add_nibbles-requires : goal.add_nibbles-requires
add_nibbles-requires c = rw c.if-bits-eq4.true at c.requires.entries_value

pub returns-then-bits-eq4 : goal.returns-then-bits-eq4
returns-then-bits-eq4 c =
    rw c.if-bits-eq4.true c.add_nibbles.ensures

pub add_bytes-requires : goal.add_bytes-requires
add_bytes-requires c =
    let x = c.args in
    rw (
      numbers-whole x.bits x.bytes.now c.if-bits-eq4.false,
      eight x.bits c.requires.bits_value
          c.if-bits-eq4.false,
    ) at c.requires.entries_value

pub returns-else-bits-eq4 : goal.returns-else-bits-eq4
returns-else-bits-eq4 c =
    let x = c.args in
    rw (
      numbers-whole x.bits x.bytes.now c.if-bits-eq4.false,
      eight x.bits
          c.requires.bits_value c.if-bits-eq4.false,
    ) c.add_bytes.ensures
