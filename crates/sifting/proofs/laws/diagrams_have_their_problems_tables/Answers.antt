use Rattle.std.proofs.Common.{arith}
use Rattle.sifting.proofs.DiagramTables.{problem_roots, problem_same}
use Rattle.sifting.proofs.laws.diagrams_have_their_problems_tables.Goals as goal

pub returns-clause-roots : goal.returns-clause-roots
returns-clause-roots c = λ order d r. omega (arith, problem_roots c.args.problem.now order d r, c.outputs.ensures.few)

pub returns-clause-tables : goal.returns-clause-tables
returns-clause-tables c = problem_same c.args.problem.now c.tables_have_all_points.ensures
