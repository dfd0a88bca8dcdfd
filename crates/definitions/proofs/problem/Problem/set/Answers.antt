use Rattle.std.proofs.Common.{arith}
use Rattle.std.proofs.lemmas.List.{get_or_default}
use Rattle.definitions.proofs.Bits.Problems.{set_facts}
use Rattle.definitions.proofs.problem.Problem.set.Goals as goal

pub index_mut-requires : goal.index_mut-requires
index_mut-requires c = grind (arith, set_facts)

pub invariant_of-self : goal.invariant_of-self
invariant_of-self c = grind (arith, set_facts, get_or_default)

pub returns-clause-tables : goal.returns-clause-tables
returns-clause-tables c = grind (arith, set_facts, get_or_default)
