use Rattle.definitions.specs.Problems.{TruthTables}
use Rattle.subset_layers.specs.Layers.{block_masks}
use Rattle.compaction.specs.Rows.{HoldsRows}
use Rattle.compaction.proofs.BlockRows.{RowsTo}
use Rattle.compaction.proofs.blocks.rows_of_block.Given as goal

abbrev pub invariant-loop-i : goal.invariant-loop-i
invariant-loop-i l = (p : TruthTables) → HoldsRows p l.byte → RowsTo p (block_masks l.block) l.needed l.i l.rows.items
