use Rattle.std.proofs.Common.{subst}
use Rattle.sifting.specs.LevelLists.{nodes_of}
use Rattle.sifting.specs.Managed.{IsManagedOrder}
use Rattle.sifting.proofs.ManagerFields.{held_order}
use Rattle.sifting.proofs.manager.Manager.order.Goals as goal

pub returns-clause-managed : goal.returns-clause-managed
returns-clause-managed c =
    let s = c.self.inside in
    subst IsManagedOrder c.self.view_is (held_order (nodes_of s.levels.items) s.terminals.items s.order s.roots.items s.pairs c.self.invariant)
