use Rattle.std.proofs.Common.{arith}
use Rattle.sifting.specs.NodeTables.{home_of}
use Rattle.sifting.proofs.node_table.home.Goals as goal

pub returns-clause-place : goal.returns-clause-place
unfolding home_of
returns-clause-place c = grind arith
