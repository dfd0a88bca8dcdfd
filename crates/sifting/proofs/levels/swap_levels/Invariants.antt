use Rattle.std.proofs.Common.{◌≡◌, ◌+◌, ◌*◌, ◌<◌, ◌^◌, length}
use Rattle.sifting.specs.Leveled.{SwapsFirst, branching}
use Rattle.sifting.specs.NodeTables.{IsNodeTable}
use Rattle.sifting.proofs.levels.swap_levels.Given as goal

abbrev pub invariant-loop-off : goal.invariant-loop-off
invariant-loop-off l = record {
  swaps : SwapsFirst l.off-index l.upper l.lower l.kept.items l.table.nodes.items;
  table : IsNodeTable l.table;
  room : l.table.base + 2 * length l.upper < 2 ^ 32;
  counted : l.count ≡ branching l.kept.items;
}
