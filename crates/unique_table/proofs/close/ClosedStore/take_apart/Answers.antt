use Rattle.std.proofs.Common.{ap, ◌∙◌}
use Rattle.unique_table.specs.Plans.{order_of}
use Rattle.unique_table.specs.Closing.{ClosedStoreOf}
use Rattle.unique_table.proofs.close.ClosedStore.take_apart.Goals as goal

pub returns-clause-order : goal.returns-clause-order
returns-clause-order c = c.self.invariant.order ∙ ap (λ (z : ClosedStoreOf). order_of z.plan) c.self.view_is
