use Rattle.unique_table.specs.Sessions.{Follows}
use Rattle.unique_table.proofs.OpenedStores.{seated, goes_step, small_id, entry_means, entry_depth}
use Rattle.unique_table.proofs.store.Store.entry.Goals as goal

pub entry_key-key-requires-clause-first : goal.entry_key-key-requires-clause-first
entry_key-key-requires-clause-first c =
    small_id c.self.inside c.session.inside c.args.self.now c.args.session.now c.self.view_is c.session.view_is c.self.invariant
    c.session.invariant c.requires.session c.args.first c.requires.known.0

pub entry_key-key-requires-clause-second : goal.entry_key-key-requires-clause-second
entry_key-key-requires-clause-second c =
    small_id c.self.inside c.session.inside c.args.self.now c.args.session.now c.self.view_is c.session.view_is c.self.invariant
    c.session.invariant c.requires.session c.args.second c.requires.known.1

pub returns-then-word-key-clause-step : goal.returns-then-word-key-clause-step
returns-then-word-key-clause-step c =
    goes_step c.self.inside c.session.inside c.args.self.now c.args.session.now c.self.view_is c.session.view_is c.self.invariant
    c.session.invariant c.requires.session c.recall-word.new.seat 0 c.recall-word.ensures.step

pub returns-clause-step : goal.returns-clause-step
returns-clause-step c =
    goes_step c.self.inside c.session.inside c.args.self.now c.args.session.now c.self.view_is c.session.view_is c.self.invariant
    c.session.invariant c.requires.session c.recall-word.new.seat 0 c.recall-word.ensures.step

pub returns-clause-function : goal.returns-clause-function
returns-clause-function c = search (entry_means, small_id)

pub returns-clause-level : goal.returns-clause-level
returns-clause-level c =
    let on : Follows c.args.session.now (seated c.recall-word.new.seat) =
    (goes_step c.self.inside c.session.inside c.args.self.now c.args.session.now c.self.view_is c.session.view_is c.self.invariant
    c.session.invariant c.requires.session c.recall-word.new.seat 0 c.recall-word.ensures.step).follows in λ k.
    entry_depth c.self.inside c.self.invariant c.recall-word.new.seat c.recall-word.ensures.step.seat c.args.operation c.args.first
    c.args.second c.recall-word.result c.entry_key-key.result
    (small_id c.self.inside c.session.inside c.args.self.now c.args.session.now c.self.view_is c.session.view_is c.self.invariant
    c.session.invariant c.requires.session c.args.first c.requires.known.0)
    (small_id c.self.inside c.session.inside c.args.self.now c.args.session.now c.self.view_is c.session.view_is c.self.invariant
    c.session.invariant c.requires.session c.args.second c.requires.known.1)
    c.recall-word.ensures.found c.entry_key-key.ensures c.if-word-key.false k
    (on.knows c.args.first c.requires.known.0) (on.knows c.args.second c.requires.known.1)
