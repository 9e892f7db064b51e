-- A byte with its highest bit set is no less than what is taken off it; what is left marks the letters.
use native.Mathlib.Omega.{arith}
use borrow.Author.Rules.{rules}
use Rattle.keywords.proofs.FoldLaws.{guarded, marked}
use Rattle.keywords.proofs.hash.capitals.Goals as goal

pub overflow_sub-from_a : goal.overflow_sub-from_a
overflow_sub-from_a c = let l = guarded c.args.chunk 0x80808080 in omega arith

pub overflow_sub-past_z : goal.overflow_sub-past_z
overflow_sub-past_z c = let l = guarded c.args.chunk 0x80808080 in omega arith

pub returns : goal.returns
returns c = marked c.args.chunk (search rules)
