use Rattle.std.proofs.Common.{◌+◌, sym, ◌∙◌, subst}
use Rattle.definitions.specs.Functions.{Function}
use Rattle.unique_table.specs.Plans.{output_at, piece_function}
use Rattle.unique_table.specs.Sessions.{Means}
use Rattle.unique_table.proofs.SessionsGoOn.{follows_trans}
use Rattle.unique_table.proofs.Roots.{root_function}
use Rattle.store_tests.proofs.closed_stores.publish_output.Goals as goal

pub publish-requires-clause-function : goal.publish-requires-clause-function
publish-requires-clause-function g c = subst (λ (f : Function). Means c.collect-before.new.session c.args.id f)
    (sym ((λ i. piece_function c.args.store.now.plan (c.roots.ensures.value i + c.from.ensures i)) ∙ root_function c.args.store.now.plan c.args.output))
    (c.collect-before.ensures.step.follows.means c.args.id (output_at c.args.store.now.plan.problem.value c.args.output) c.requires.function)

pub returns : goal.returns
returns g c =
    let asked = c.collect-before.ensures.step.follows in
    let published = c.publish.ensures.step.follows in
    follows_trans c.args.session.now c.publish.new.session c.collect-after.new.session
    (follows_trans c.args.session.now c.collect-before.new.session c.publish.new.session asked published) c.collect-after.ensures.step.follows
