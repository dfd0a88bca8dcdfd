use Rattle.definitions.specs.Functions.{depends, from_table}
use Rattle.definitions.specs.Problems.{table_at}
use Rattle.definitions.proofs.Bits.Problems.{MaskOfFirst}
use Rattle.definitions.proofs.problem.Problem.support.Given as goal

abbrev pub invariant-loop-x : goal.invariant-loop-x
invariant-loop-x l = MaskOfFirst (depends l.self.inputs (from_table (table_at l.self l.output))) l.x l.found
