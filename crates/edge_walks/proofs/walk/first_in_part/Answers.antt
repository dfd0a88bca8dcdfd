use Rattle.std.proofs.Common.{arith}
use Rattle.edge_walks.proofs.WalkTables.{part_set, stands_part}
use Rattle.edge_walks.proofs.walk.first_in_part.Goals as goal

pub has_judged-requires : goal.has_judged-requires
has_judged-requires c = grind arith

pub invariant_of-own_part : goal.invariant_of-own_part
invariant_of-own_part c = grind (arith, stands_part)

pub returns-in-Some : goal.returns-in-Some
returns-in-Some c = grind (arith, part_set)

pub invariant_of-same : goal.invariant_of-same
invariant_of-same c = grind (arith, stands_part)

pub returns-in-None : goal.returns-in-None
returns-in-None c = grind (arith, part_set)
