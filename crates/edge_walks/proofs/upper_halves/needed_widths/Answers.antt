use Rattle.std.proofs.Common.{arith}
use Rattle.std.proofs.lemmas.Nat.{one_shl}
use Rattle.definitions.proofs.Widths.Cells.{member_below}
use Rattle.edge_walks.proofs.IntoSet.{bit_needs}
use Rattle.edge_walks.proofs.upper_halves.needed_widths.Goals as goal

pub overflow_sub-from : goal.overflow_sub-from
overflow_sub-from c = grind (arith, bit_needs, one_shl)

pub returns-clause-enough : goal.returns-clause-enough
returns-clause-enough c y b = grind (arith, member_below)
