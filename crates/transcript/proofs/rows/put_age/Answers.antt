-- A dash, or the age's number, which is below 512 and so fits.
use Rattle.std.proofs.Common.{rules}
use Rattle.transcript.proofs.Listing.{age-none, age-some}
use Rattle.transcript.proofs.rows.put_age.Goals as goal

pub returns-then-age-clause-text : goal.returns-then-age-clause-text
returns-then-age-clause-text c = age-some c.args.age (search rules) c.put_number.ensures.text

pub returns-else-age-clause-text : goal.returns-else-age-clause-text
returns-else-age-clause-text c = (age-none c.args.age (search rules) c.put_byte.ensures).0
