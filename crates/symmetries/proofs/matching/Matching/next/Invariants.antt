use Rattle.std.proofs.Common.{◌<◌, IfSome}
use Rattle.symmetries.proofs.matching.Matching.next.Given as goal

abbrev pub invariant-loop-x : goal.invariant-loop-x
invariant-loop-x l = IfSome l.next (λ r. r.0 < 16)
