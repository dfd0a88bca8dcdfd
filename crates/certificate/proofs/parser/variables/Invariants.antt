use Rattle.std.proofs.Common.{◌≡◌, take}
use Rattle.certificate.proofs.parser.variables.Given as goal

abbrev pub invariant-loop-number : goal.invariant-loop-number
invariant-loop-number l = l.variables.items ≡ take l.number-index l.fn.numbers
