use Rattle.std.proofs.Common.{arith}
use Rattle.compaction.proofs.WantedSets.{some_members}
use Rattle.compaction.proofs.request.WidthRequest.add_members.Goals as goal

pub add-requires-clause-members : goal.add-requires-clause-members
add-requires-clause-members c = grind (arith, some_members)
