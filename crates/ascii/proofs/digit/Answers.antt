-- A byte from 0 to 9 has its number; every other has none.
use Rattle.ascii.specs.Text.{digit_of}
use Rattle.ascii.proofs.Tests.{tests}
use Rattle.ascii.proofs.digit.Goals as goal

pub returns-in-48-to-57 : goal.returns-in-48-to-57
unfolding digit_of
returns-in-48-to-57 c = search tests

pub returns-in_default : goal.returns-in_default
unfolding digit_of
returns-in_default c = search tests

pub returns-in_default-2 : goal.returns-in_default-2
unfolding digit_of
returns-in_default-2 c = search tests
