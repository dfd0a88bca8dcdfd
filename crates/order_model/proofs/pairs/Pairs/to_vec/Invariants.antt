use Rattle.std.proofs.Common.{◌≡◌}
use Rattle.definitions.proofs.Precedence.MaskLaws.{rows_to, row_to}
use Rattle.order_model.proofs.pairs.Pairs.to_vec.Given as goal

abbrev pub invariant-loop-a : goal.invariant-loop-a
invariant-loop-a l = l.pairs.items ≡ rows_to l.self-inside.inputs l.self-inside.below l.a

abbrev pub invariant-loop-b : goal.invariant-loop-b
invariant-loop-b l = l.pairs.items ≡ row_to l.self-inside.inputs l.self-inside.below l.a l.b
