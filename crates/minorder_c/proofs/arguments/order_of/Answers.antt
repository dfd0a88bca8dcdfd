use Rattle.std.proofs.Common.{subst}
use Rattle.definitions.specs.OrderFaults.{IsNoOrder}
use Rattle.definitions.proofs.Precedence.Greedy.{in_range}
use Rattle.minorder_c.proofs.arguments.order_of.Goals as goal

pub returns-in-Err-OutOfRange-clause-refused : goal.returns-in-Err-OutOfRange-clause-refused
returns-in-Err-OutOfRange-clause-refused c = (
  tt,
  λ o. subst (IsNoOrder c.args.variables.now) c.in-Err-OutOfRange.field-0-is c.in-Err-OutOfRange.ensures.refused
      (in_range c.args.variables.now (record { some = c.requires.some; few = c.requires.few; order = o })),
)
