use Rattle.std.proofs.Common.{◌≡◌, length, ◌*◌, ◌≤◌}
use Rattle.definitions.proofs.Precedence.MaskLaws.{rows_to}
use Rattle.order_model.proofs.pairs.Pairs.count.Given as goal

abbrev pub invariant-loop-a : goal.invariant-loop-a
invariant-loop-a l = (l.count ≡ length (rows_to l.self-inside.inputs l.self-inside.below l.a)) × (l.count ≤ 15 * l.a)
