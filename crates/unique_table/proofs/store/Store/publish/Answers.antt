use Rattle.unique_table.proofs.OpenedStores.{goes_step}
use Rattle.unique_table.proofs.store.Store.publish.Goals as goal

pub returns-clause-step : goal.returns-clause-step
returns-clause-step c =
    goes_step c.self.inside c.session.inside c.args.self.now c.args.session.now c.self.view_is c.session.view_is c.self.invariant
    c.session.invariant c.requires.session c.publish.new.seat 1 c.publish.ensures.step
