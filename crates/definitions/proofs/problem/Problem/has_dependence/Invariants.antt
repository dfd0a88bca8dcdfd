use Rattle.std.proofs.Common.{◌≡◌, ◌<◌, ℕ, get_or, false, []}
use Rattle.definitions.specs.Functions.{depends, from_table}
use Rattle.definitions.proofs.problem.Problem.has_dependence.Given as goal

abbrev pub invariant-loop-output : goal.invariant-loop-output
invariant-loop-output l = (j : ℕ) → j < l.output → depends l.self.inputs (from_table (get_or l.self.tables j [])) l.x ≡ false
