use Rattle.sifting.specs.LevelLists.{nodes_of}
use Rattle.sifting.proofs.BuiltLevels.{Built}
use Rattle.sifting.proofs.build.levels_of.Given as goal

abbrev pub invariant-loop-x : goal.invariant-loop-x
invariant-loop-x l = Built l.order (record { nodes = l.nodes; roots = l.roots }) l.numbers.items l.x-index (nodes_of l.levels.items) l.cut.items
