use Rattle.std.proofs.Common.{sym, arith}
use Rattle.definitions.proofs.Bits.Problems.{some_depends, none_depends}
use Rattle.definitions.proofs.problem.Problem.has_dependence.Goals as goal

pub returns-then-depends_on : goal.returns-then-depends_on
returns-then-depends_on c = grind (arith, some_depends)

pub returns : goal.returns
returns c = sym (none_depends c.args.self.now c.args.x (λ j h. c.loop-output.invariant j (omega arith)))
