use Rattle.std.proofs.Common.{◌≡◌, map, take}
use Rattle.truth_table.specs.Levels.{node_named}
use Rattle.truth_table.proofs.diagrams.nodes_of.Given as goal

abbrev pub invariant-loop-i : goal.invariant-loop-i
invariant-loop-i l = l.nodes.items ≡ map node_named (take l.i l.numbered)
