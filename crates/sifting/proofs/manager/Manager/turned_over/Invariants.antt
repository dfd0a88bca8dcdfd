use Rattle.std.proofs.Common.{◌≡◌, length}
use Rattle.sifting.proofs.manager.Manager.turned_over.Given as goal

abbrev pub invariant-loop-x : goal.invariant-loop-x
invariant-loop-x l = record {
  functions_stay : l.manager.problem ≡ l.fn.self.problem;
  pairs_stay : l.manager.pairs ≡ l.fn.self.pairs;
  length_stays : length l.manager.order ≡ length l.fn.self.order;
}
