use Rattle.std.proofs.Common.{◌≡◌, ℕ, ◌<◌, ◌≤◌, length, get_or, take}
use Rattle.definitions.specs.Levels.{level_count, reach}
use Rattle.definitions.specs.Problems.{functions}
use Rattle.truth_table.proofs.LevelSteps.{Tells}
use Rattle.truth_table.proofs.tables.Tables.widths_of.Given as goal

abbrev pub invariant-loop-level : goal.invariant-loop-level
invariant-loop-level l = record {
  tells : Tells l.self.inputs (reach (functions l.self) (take l.level l.order)) l.classes.items;
  long : length l.counts.items ≡ length l.order;
  counted : (i : ℕ) → l.level ≤ i → i < length l.order → get_or l.counts.items i 0 ≡ level_count l.self.inputs (functions l.self) l.order i;
}
