use Rattle.std.proofs.Common.{rules}
use Rattle.definitions.proofs.variables.Workers.new.Goals as goal

pub invariant_of-result : goal.invariant_of-result
invariant_of-result c = search rules

pub returns-then-count-le64-clause-some : goal.returns-then-count-le64-clause-some
returns-then-count-le64-clause-some c = search rules
