use Rattle.std.proofs.Common.{arith}
use Rattle.compaction.proofs.OwnMembers.{bit_member}
use Rattle.compaction_tests.proofs.walks.row_found.Goals as goal

pub row-requires-clause-members : goal.row-requires-clause-members
row-requires-clause-members g c = λ x e. grind (arith, bit_member)
