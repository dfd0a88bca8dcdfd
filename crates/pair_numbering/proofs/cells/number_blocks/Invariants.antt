use Rattle.pair_numbering.specs.Cells.{AreCelled}
use Rattle.pair_numbering.proofs.cells.number_blocks.Given as goal

abbrev pub invariant-loop-block : goal.invariant-loop-block
invariant-loop-block l = AreCelled l.pairs l.block l.cells l.out l.joined l.count
