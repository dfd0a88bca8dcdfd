use Rattle.std.proofs.Common.{arith}
use Rattle.node_words.proofs.Functions.{function_terminal}
use Rattle.unique_table.specs.Plans.{order_of}
use Rattle.unique_table.specs.Sessions.{Follows}
use Rattle.unique_table.proofs.OpenedStores.{seated, goes_step, goes_nowhere, one_step}
use Rattle.unique_table.proofs.Parts.{has_parts}
use Rattle.std.proofs.lemmas.Grind.{common_steps}
use Rattle.unique_table.proofs.store.Store.node.Goals as goal

pub returns-then-id-lt2-clause-constant : goal.returns-then-id-lt2-clause-constant
returns-then-id-lt2-clause-constant c =
    λ p. function_terminal (order_of c.session.inside.seat.me.0.plan) c.session.inside.seat.me.0.seen c.session.invariant.good.nodes
    c.args.id c.if-id-lt2.true p

pub returns-then-id-lt2-clause-goes_on : goal.returns-then-id-lt2-clause-goes_on
returns-then-id-lt2-clause-goes_on c =
    goes_nowhere c.self.inside c.session.inside c.args.self.now c.args.session.now c.self.view_is c.session.view_is c.self.invariant
    c.session.invariant c.requires.session 1

pub returns-clause-goes_on : goal.returns-clause-goes_on
returns-clause-goes_on c =
    one_step c.args.session.now (seated c.look-word.new.seat) 0
    (goes_step c.self.inside c.session.inside c.args.self.now c.args.session.now c.self.view_is c.session.view_is c.self.invariant
    c.session.invariant c.requires.session c.look-word.new.seat 0 c.look-word.ensures.step)

pub returns-clause-parts : goal.returns-clause-parts
returns-clause-parts c =
    let on : Follows c.args.session.now (seated c.look-word.new.seat) =
    (goes_step c.self.inside c.session.inside c.args.self.now c.args.session.now c.self.view_is c.session.view_is c.self.invariant
    c.session.invariant c.requires.session c.look-word.new.seat 0 c.look-word.ensures.step).follows in
    has_parts (seated c.look-word.new.seat) c.look-word.ensures.step.view.good.nodes c.args.id c.if-id-lt2.false
    (on.knows c.args.id c.requires.known) c.look-word.result c.look-word.ensures.found c.node_parts.result
    c.node_parts.ensures.level c.node_parts.ensures.low c.node_parts.ensures.high

pub look-word-requires-clause-place : goal.look-word-requires-clause-place
look-word-requires-clause-place c = grind (arith, common_steps)
