use Rattle.std.proofs.Common.{◌∙◌, sym, ap}
use Rattle.definitions.specs.Problems.{functions}
use Rattle.definitions.specs.Cells.{cell_of}
use Rattle.definitions.specs.declared.limits.Limit.{Limit}
use Rattle.definitions.specs.declared.limits.LowerBound.TheVariants.{Variables}
use Rattle.layer_core.specs.Instances.{cell_for, instance_of}
use Rattle.solver_tests.proofs.boards.parity_cell.Goals as goal

pub new-requires-clause-cell : goal.new-requires-clause-cell
new-requires-clause-cell c = c.requires.cell
    ∙ (λ i. cell_of (sym c.requires.problem i).inputs (functions (sym c.requires.problem i)) (sym c.requires.pairs i) Variables 7 c.args.mask)
    ∙ ap (λ (l : Limit). cell_for (instance_of c.args.problem.now c.args.pairs.now l) c.args.mask) (sym c.limit.ensures)
