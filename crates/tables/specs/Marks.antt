-- The marks by name: the byte of each, and the mark of a byte.
use Rattle.std.specs.Prelude.{ℕ, cond, eqb, Result, Ok, Err}
use Rattle.tables.specs.declared.Mark.{Mark}
use Rattle.tables.specs.declared.Mark.TheVariants.{NoTable, Waiting, Running, Settled, Broken}
use Rattle.tables.specs.declared.UnknownMark.{UnknownMark}
use Rattle.tables.specs.Tables.{none, waiting, running, settled, broken}

abbrev pub byte_of : Mark → ℕ
byte_of NoTable = none
byte_of Waiting = waiting
byte_of Running = running
byte_of Settled = settled
byte_of Broken = broken

abbrev pub mark_named : ℕ → Result Mark UnknownMark
mark_named b =
    cond (eqb b none) (Ok NoTable)
    (cond (eqb b waiting) (Ok Waiting)
    (cond (eqb b running) (Ok Running)
    (cond (eqb b settled) (Ok Settled)
    (cond (eqb b broken) (Ok Broken) (Err (record { 0 = b }))))))
