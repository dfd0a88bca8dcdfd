use Rattle.std.proofs.Common.{arith}
use Rattle.unique_table.proofs.OpenedStores.{goes_step}
use Rattle.std.proofs.lemmas.Grind.{common_steps}
use Rattle.unique_table.proofs.store.Store.collect.Goals as goal

pub returns-then-word-eq0-clause-step : goal.returns-then-word-eq0-clause-step
returns-then-word-eq0-clause-step c =
    goes_step c.self.inside c.session.inside c.args.self.now c.args.session.now c.self.view_is c.session.view_is c.self.invariant
    c.session.invariant c.requires.session c.collect-word.new.seat 0 c.collect-word.ensures.step

pub returns-clause-step : goal.returns-clause-step
returns-clause-step c =
    goes_step c.self.inside c.session.inside c.args.self.now c.args.session.now c.self.view_is c.session.view_is c.self.invariant
    c.session.invariant c.requires.session c.collect-word.new.seat 0 c.collect-word.ensures.step

pub overflow_cast-result : goal.overflow_cast-result
overflow_cast-result c = grind (arith, common_steps)
