use Rattle.std.proofs.Common.{◌≡◌, None, length}
use Rattle.certificate.specs.Spelling.{pair_key}
use Rattle.certificate.specs.Values.{fit, is_pair_of}
use Rattle.certificate.proofs.bounds.pairs_rise.Given as goal

abbrev pub invariant-loop-rest : goal.invariant-loop-rest
invariant-loop-rest l = fit (is_pair_of l.fn.n) pair_key None l.fn.pairs ≡ fit (is_pair_of l.fn.n) pair_key l.last l.rest

abbrev pub decreases-loop-rest : goal.decreases-loop-rest
decreases-loop-rest l = length l.rest
