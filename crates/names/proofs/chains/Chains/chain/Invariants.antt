-- The names before name i have been passed.
use Rattle.names.proofs.ChainLaws.{Passed}
use Rattle.names.proofs.chains.Chains.chain.Given as goal

abbrev pub invariant-loop-i : goal.invariant-loop-i
invariant-loop-i l = Passed l.area l.i l.self.heads l.self.links l.self.tags
