use Rattle.std.proofs.Common.{◌≡◌, length}
use Rattle.layer_core.specs.Instances.{InstanceOf}
use Rattle.solutions.specs.Bounded.{HoldsCells}
use Rattle.solutions.proofs.ReadCells.{ReadBoth}
use Rattle.solutions.proofs.reading.read_optimum.Given as goal

abbrev pub invariant-loop-place : goal.invariant-loop-place
invariant-loop-place l = (t : InstanceOf) → HoldsCells t l.cells → t.problem.inputs ≡ length l.order → ReadBoth t l.set l.cost l.order l.levels l.place
