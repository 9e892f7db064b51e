-- A byte that is no mark is above all of them.
use Rattle.std.proofs.Common.{ℕ, zero, suc, ◌≡◌, Bool, false, Err, arith}
use lib.Dec.{leb}
use borrow.Author.Tests.{lt-leb}
use Rattle.tables.specs.declared.UnknownMark.{UnknownMark}
use Rattle.tables.specs.Tables.{broken}
use Rattle.tables.specs.Marks.{mark_named}

pub unknown_mark : (k : ℕ) (u : UnknownMark) → Err u ≡ mark_named k → leb k broken ≡ false
unknown_mark zero u e = cc
unknown_mark (suc zero) u e = cc
unknown_mark (suc (suc zero)) u e = cc
unknown_mark (suc (suc (suc zero))) u e = cc
unknown_mark (suc (suc (suc (suc zero)))) u e = cc
unknown_mark (suc (suc (suc (suc (suc k))))) u e = lt-leb (suc (suc (suc (suc (suc k))))) broken (omega arith)
