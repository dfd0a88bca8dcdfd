use Rattle.std.proofs.Common.{◌<◌, ◌≤◌, ◌+◌, length, map, take}
use Rattle.std.specs.List.{All}
use Rattle.definitions.specs.Levels.{reach}
use Rattle.definitions.specs.Problems.{TruthTables, functions}
use Rattle.truth_table.specs.Assignments.{AreValuesUnder}
use Rattle.truth_table.specs.Levels.{node_named}
use Rattle.truth_table.proofs.LevelDiagrams.{Leveled}
use Rattle.truth_table.proofs.diagrams.add_levels.Given as goal

abbrev pub invariant-loop-level : goal.invariant-loop-level
invariant-loop-level l = record {
  leveled : (t : TruthTables) → AreValuesUnder t l.order l.fn.memory.roots.items →
      Leveled t.inputs (reach (functions t) (take l.level l.order)) l.order l.level (map node_named l.memory.nodes.items) l.memory.roots.items;
  few : length l.memory.nodes.items + length l.memory.roots.items ≤ 1048576;
  refs : All (λ c. c < length l.memory.nodes.items + 2) l.memory.roots.items;
}
