use Rattle.std.proofs.Common.{ℕ, ◌≤◌}
use Rattle.edge_walks.specs.Walks.{FailsInBlock}
use Rattle.edge_walks.proofs.walk.first_into.Given as goal

abbrev pub invariant-loop-x : goal.invariant-loop-x
invariant-loop-x l = (S x : ℕ) → l.x ≤ x → FailsInBlock l.edges l.table.set 0 S x → ⊥
