use Rattle.std.proofs.Common.{rules}
use Rattle.report.proofs.search.search.Goals.{then-input+in_ok-solve, else-input+in_ok-find_optimum}
use Rattle.report.proofs.search.search.Goals as goal

pub returns : goal.returns
returns g c = elim c.if-input.branch [ then-input+in_ok-solve w ↦ search rules | else-input+in_ok-find_optimum w ↦ search rules ]
