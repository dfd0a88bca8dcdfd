use Rattle.std.proofs.Common.{◌≡◌, take}
use Rattle.minorder_c.specs.Answers.{pairs_given}
use Rattle.minorder_c.proofs.above.numbers_of.Given as goal

abbrev pub invariant-loop-i : goal.invariant-loop-i
invariant-loop-i l = l.pairs.items ≡ pairs_given (take l.i l.given)
