use Rattle.std.proofs.Common.{◌+◌, ◌*◌, cond}
use Rattle.edge_walks.proofs.walk.+first_failing.Given as goal

abbrev pub decreases-first_failing : goal.decreases-first_failing
decreases-first_failing l = 2 * l.at.free + cond l.short 0 1
