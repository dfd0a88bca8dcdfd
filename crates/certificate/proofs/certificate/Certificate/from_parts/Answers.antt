use Rattle.std.proofs.Common.{rules}
use Rattle.certificate.proofs.certificate.Certificate.from_parts.Goals as goal

pub invariant_of-result : goal.invariant_of-result
invariant_of-result c = search rules
