use Rattle.std.proofs.Common.{◌≡◌, length}
use Rattle.unique_table.specs.Copies.{words_in, AreCopied, AreRefs, AreReached}
use Rattle.unique_table.proofs.reached_nodes.reached_nodes.Given as goal

abbrev pub invariant-loop-id : goal.invariant-loop-id
invariant-loop-id l = record {
  size : length l.numbers ≡ l.places;
  copied : AreCopied l.order (words_in l.closed l.places) l.numbers l.nodes.items;
  refs : AreRefs l.numbers l.roots.items l.ids l.id-index;
  reached : AreReached l.nodes.items l.roots.items;
}
