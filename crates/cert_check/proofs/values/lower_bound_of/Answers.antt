use Rattle.std.proofs.Common.{eq-eqb, ne_eqb, arith}
use Rattle.definitions.specs.Certificates.{lower_bound}
use Rattle.definitions.proofs.Widths.Outside.{outside_count}
use Rattle.cert_check.proofs.values.lower_bound_of.Goals as goal

pub returns-then-format-eq1 : goal.returns-then-format-eq1
unfolding lower_bound
returns-then-format-eq1 c = grind (arith, eq-eqb)

pub returns-else-format-eq1 : goal.returns-else-format-eq1
unfolding lower_bound
returns-else-format-eq1 c = grind (arith, outside_count, ne_eqb)
