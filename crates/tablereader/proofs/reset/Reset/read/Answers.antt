-- Each test that refuses is one of those that a good RESET passes.
use Rattle.std.proofs.Common.{rules, ◌≡◌, arith, refl}
use Rattle.wire.proofs.NumberLaws.{four-at}
use Rattle.tables.specs.Updates.{good_reset, length_in}
use Rattle.tablereader.proofs.reset.Reset.read.Goals.{After-from_le_bytes-length}
use Rattle.tablereader.proofs.reset.Reset.read.Goals.{else-good_length-via-then-good_length+then-length-room+else-good_infinity}
use Rattle.tablereader.proofs.reset.Reset.read.Goals.{else-good_length-via-then-good_length+else-length-room}
use Rattle.tablereader.proofs.reset.Reset.read.Goals.{else-good_length-via-else-good_length}
use Rattle.tablereader.proofs.reset.Reset.read.Goals as goal

pub returns-in_default : goal.returns-in_default
unfolding good_reset
returns-in_default c = (refl, search rules)

pub returns-in_default-2 : goal.returns-in_default-2
unfolding good_reset
returns-in_default-2 c = (refl, search rules)

pub returns-in_default-3 : goal.returns-in_default-3
unfolding good_reset
returns-in_default-3 c = (refl, search rules)

-- the length that was read
length-is : (c : After-from_le_bytes-length) → c.from_le_bytes-length.result ≡ length_in c.args.payload.now
length-is c = omega (arith, c.from_le_bytes-length.ensures, four-at c.args.payload.now 1)

pub returns-then-good_infinity : goal.returns-then-good_infinity
unfolding good_reset
returns-then-good_infinity c =
    let n = length-is (goal.at.returns-then-good_infinity c).After-from_le_bytes-length in (search rules, n, refl)

pub returns-else-good_length : goal.returns-else-good_length
unfolding good_reset
returns-else-good_length c =
    let n = length-is (goal.at.returns-else-good_length c).After-from_le_bytes-length in (
      refl,
      elim c.else-good_length.branch [
        | else-good_length-via-then-good_length+then-length-room+else-good_infinity w ↦ search rules
        | else-good_length-via-then-good_length+else-length-room w ↦ search rules
        | else-good_length-via-else-good_length w ↦ search rules
      ],
    )
