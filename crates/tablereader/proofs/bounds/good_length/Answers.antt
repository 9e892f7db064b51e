-- The arm's numbers are the list of lengths: one of them passes the list's test, and any other fails it.
use mathlib.Core.List.{[], ◌∷◌}
use mathlib.Core.Path.{sym}
use Rattle.tables.specs.Tables.{good_length}
use Rattle.tables.proofs.TestLaws.{among-any, among_none}
use borrow.Author.Rules.{rules}
use Rattle.tablereader.proofs.bounds.good_length.Goals as goal

pub returns-in-4 : goal.returns-in-4
unfolding good_length
returns-in-4 c =
    sym (among-any c.args.n 4 (8 ∷ 16 ∷ 32 ∷ 64 ∷ 128 ∷ 256 ∷ 512 ∷ 1024 ∷ 2048 ∷ 4096 ∷ 8192 ∷ 16384
    ∷ 32768 ∷ 65536 ∷ []) c.in-4.is)

pub returns-in_default : goal.returns-in_default
unfolding good_length
returns-in_default c =
    sym (among_none c.args.n 4 (8 ∷ 16 ∷ 32 ∷ 64 ∷ 128 ∷ 256 ∷ 512 ∷ 1024 ∷ 2048 ∷ 4096 ∷ 8192 ∷ 16384
    ∷ 32768 ∷ 65536 ∷ []) (search rules))
