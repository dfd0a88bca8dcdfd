use Rattle.std.proofs.Common.{arith}
use Rattle.sifting.proofs.BranchingNodes.{branching_none}
use Rattle.sifting.proofs.node_table.NodeTable.begin.Goals as goal
use Rattle.sifting.proofs.node_table.NodeTable.begin.Goals.{then-len-self+in_ok-resize, else-len-self}

pub returns-clause-table : goal.returns-clause-table
returns-clause-table c = grind (arith, then-len-self+in_ok-resize, else-len-self, branching_none)
