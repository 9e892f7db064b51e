-- What an update comes to: its outcome and the table that it leaves, as an answer and that table.
use Rattle.std.specs.Prelude.{Result}
use Rattle.answer.specs.declared.Refusal.{Refusal}
use Rattle.answer.specs.Numbers.{answer_of}
use Rattle.tables.specs.declared.Table.{Table}
use Rattle.tables.specs.Updates.{Updated}

abbrev pub updated_as : {A : Type 0} → Result A Refusal → Table → Updated
updated_as outcome t = record { answer = answer_of outcome; table = t }
