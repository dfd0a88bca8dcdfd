use Rattle.std.proofs.Common.{subst}
use Rattle.unique_table.specs.Sessions.{Knowledge, HasUniqueIds, HasLevels}
use Rattle.unique_table.proofs.OpenedStores.{seat_of, unique_ids, has_levels}
use Rattle.unique_table.proofs.store.Store.canonical_ids.Goals as goal

pub returns-clause-unique : goal.returns-clause-unique
returns-clause-unique c = subst (λ (z : Knowledge). HasUniqueIds z) c.session.view_is
    (unique_ids c.self.inside c.self.invariant c.session.inside.seat
    (seat_of c.self.inside c.session.inside c.args.self.now c.args.session.now c.self.view_is c.session.view_is c.self.invariant
    c.session.invariant c.requires))

pub returns-clause-levels : goal.returns-clause-levels
returns-clause-levels c = subst (λ (z : Knowledge). HasLevels z) c.session.view_is
    (has_levels c.session.inside.seat c.session.invariant.good.nodes)
