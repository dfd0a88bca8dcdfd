use Rattle.std.proofs.Common.{rules}
use Rattle.minorder_c.proofs.verdicts.verdict_for_c.Goals as goal

pub returns-in-Invalid-Edge : goal.returns-in-Invalid-Edge
returns-in-Invalid-Edge c = search rules
