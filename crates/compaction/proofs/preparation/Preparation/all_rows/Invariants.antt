use Rattle.definitions.specs.Problems.{functions}
use Rattle.compaction.proofs.AllRows.{AllTo}
use Rattle.compaction.proofs.preparation.Preparation.all_rows.Given as goal

abbrev pub invariant-loop-number : goal.invariant-loop-number
invariant-loop-number l = AllTo l.self.problem.inputs (functions l.self.problem) l.number l.rows.items
