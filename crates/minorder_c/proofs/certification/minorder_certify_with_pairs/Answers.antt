use Rattle.std.proofs.Common.{refl, rules}
use Rattle.minorder_c.proofs.Statuses.{other}
use Rattle.minorder_c.proofs.certification.minorder_certify_with_pairs.Goals as goal

pub returns-then-text-bytes-clause-short : goal.returns-then-text-bytes-clause-short
returns-then-text-bytes-clause-short c = search rules

pub returns-else-text-bytes-clause-written : goal.returns-else-text-bytes-clause-written
returns-else-text-bytes-clause-written c = search rules

pub returns-else-text-bytes-clause-short : goal.returns-else-text-bytes-clause-short
returns-else-text-bytes-clause-short c = other 0 7 refl
