use Rattle.std.proofs.Common.{◌∙◌, rules}
use Rattle.unique_table.specs.Plans.{output_at}
use Rattle.unique_table.specs.Sessions.{IsNodeOf}
use Rattle.unique_table.proofs.SessionsGoOn.{follows_trans}
use Rattle.store_tests.proofs.TwoFunctions.{second_bit, second_means, conjunction_means, disjunction_means}
use Rattle.store_tests.proofs.closed_stores.make_both.Goals as goal

pub returns-clause-follows : goal.returns-clause-follows
returns-clause-follows g c = let a = c.args.session.now in let b = c.make.new.session in let d = c.make-2.new.session in let e = c.make-3.new.session in
    follows_trans a b e c.make.ensures.goes_on.follows (follows_trans b d e c.make-2.ensures.goes_on.follows c.make-3.ensures.goes_on.follows)

pub returns-clause-conjunction : goal.returns-clause-conjunction
returns-clause-conjunction g c =
    let store = c.args.store.now in let one = c.make.new.session in let two = c.make-2.new.session in let y = c.expect-second.result in
    let y_is : IsNodeOf one 1 0 1 y = search rules in
    let id_is : IsNodeOf two 0 0 y c.expect-conjunction.result = search rules in
    c.make-3.ensures.goes_on.follows.means c.expect-conjunction.result (output_at store.plan.problem.value 0)
    (conjunction_means store two (c.make-2.ensures.goes_on.follows.store ∙ (c.make.ensures.goes_on.follows.store ∙ c.requires.session)) c.requires.order
    c.requires.tables y c.expect-conjunction.result
    (c.make-2.ensures.goes_on.follows.means y second_bit
    (second_means store one (c.make.ensures.goes_on.follows.store ∙ c.requires.session) c.requires.order c.requires.tables y y_is)) id_is)

pub returns-clause-disjunction : goal.returns-clause-disjunction
returns-clause-disjunction g c =
    let store = c.args.store.now in let one = c.make.new.session in let two = c.make-2.new.session in let three = c.make-3.new.session in
    let y = c.expect-second.result in
    let y_is : IsNodeOf one 1 0 1 y = search rules in
    let id_is : IsNodeOf three 0 y 1 c.expect-disjunction.result = search rules in
    disjunction_means store three
    (c.make-3.ensures.goes_on.follows.store ∙ (c.make-2.ensures.goes_on.follows.store ∙ (c.make.ensures.goes_on.follows.store ∙ c.requires.session)))
    c.requires.order c.requires.tables y c.expect-disjunction.result
    (c.make-3.ensures.goes_on.follows.means y second_bit (c.make-2.ensures.goes_on.follows.means y second_bit
    (second_means store one (c.make.ensures.goes_on.follows.store ∙ c.requires.session) c.requires.order c.requires.tables y y_is))) id_is
