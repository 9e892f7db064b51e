-- Numbers of 4 bits go to `nibbles_fit`; otherwise they have 8, and each byte is tried as it stands.
use Prim.Native.Nat.{◌*◌, ◌≤◌}
use native.Mathlib.Omega.{arith}
use lib.ListN.{length}
use borrow.Author.Tests.{eq-eqb, ne_eqb}
use Rattle.tables.proofs.NumberLaws.{eight, numbers-whole}
use Rattle.tablereader.proofs.numbers.all_fit.Goals as goal

pub nibbles_fit-requires : goal.nibbles_fit-requires
nibbles_fit-requires c = rw (eq-eqb _ _ c.if-bits-eq4.true) at c.requires.bytes_in_bounds

pub returns-then-bits-eq4 : goal.returns-then-bits-eq4
returns-then-bits-eq4 c = rw c.if-bits-eq4.true c.nibbles_fit.ensures

pub bytes_fit-requires : goal.bytes_fit-requires
bytes_fit-requires c =
    let x = c.args in
    let h : length x.bytes.now * 1 ≤ length x.entries.now = rw (ne_eqb _ _ c.if-bits-eq4.false)
    at c.requires.bytes_in_bounds in
    omega arith

pub returns-else-bits-eq4 : goal.returns-else-bits-eq4
returns-else-bits-eq4 c =
    let x = c.args in
    rw (
      numbers-whole x.bits x.bytes.now c.if-bits-eq4.false,
      eight x.bits c.requires.bits_value
          c.if-bits-eq4.false,
    ) c.bytes_fit.ensures
