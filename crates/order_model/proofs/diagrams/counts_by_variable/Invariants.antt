use Rattle.std.proofs.Common.{◌≡◌, length}
use Rattle.definitions.proofs.Nodes.Counts.{CountsFirst}
use Rattle.order_model.proofs.diagrams.counts_by_variable.Given as goal

abbrev pub invariant-loop-node : goal.invariant-loop-node
invariant-loop-node l = record {
  long : length l.counts ≡ 16;
  counted : CountsFirst l.nodes l.node-index l.counts;
}
