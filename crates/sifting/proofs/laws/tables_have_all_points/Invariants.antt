use Rattle.std.proofs.Common.{◌≡◌, ◌<◌, ◌^◌, ℕ, length}
use Rattle.definitions.specs.Problems.{table_at}
use Rattle.sifting.proofs.laws.tables_have_all_points.Given as goal

abbrev pub invariant-loop-output : goal.invariant-loop-output
invariant-loop-output l = (j : ℕ) → j < l.output → length (table_at l.problem j) ≡ 2 ^ l.problem.inputs
