use Rattle.std.proofs.Common.{◌+◌, ◌*◌, ◌/◌, ◌%◌, ◌^◌, ◌≤◌, length, arith}
use Rattle.std.proofs.Math.Nat.{div-mul-le_self, mul-le-mul_right}
use Rattle.edge_walks.proofs.repeats.has_repeat.Goals as goal

pub row_at-row-requires-clause-inside : goal.row_at-row-requires-clause-inside
row_at-row-requires-clause-inside c =
    let step = 1 * 2 ^ c.args.y % 18446744073709551616 in
    let below : c.loop-number.number + 1 ≤ length c.args.numbers.now / step = omega arith in
    omega (arith, mul-le-mul_right step below, div-mul-le_self (length c.args.numbers.now) step)
