use Rattle.std.proofs.Common.{◌+◌, ◌-◌, ◌^◌, ◌<◌, length, take, ap, sym, ◌∙◌, refl, subst, arith, rules}
use Rattle.std.proofs.lemmas.List.{length-take}
use Rattle.unique_table.specs.Plans.{order_of, output_at, fixed, top_variables}
use Rattle.unique_table.specs.Sessions.{Means}
use Rattle.unique_table.proofs.SessionsGoOn.{follows_trans, known_below_follows}
use Rattle.dd_builder.proofs.SessionSteps.{makes_node, makes_refused, ok_same}
use Rattle.dd_builder.proofs.Ends.{parts_follow}
use Rattle.dd_builder.proofs.SubfunctionNodes.{keeps_step, keeps_node}
use Rattle.dd_builder.proofs.RestrictedNodes.{restriction_at, restricted_node, path_up, path_small}
use Rattle.std.proofs.lemmas.Grind.{common_steps}
use Rattle.dd_builder.proofs.roots.+of_restrictions.Goals as goal

pub returns-then-level-top_variables-clause-made : goal.returns-then-level-top_variables-clause-made
returns-then-level-top_variables-clause-made t c = grind (arith, restriction_at)

pub of_restrictions-requires-2 : goal.of_restrictions-requires-2
of_restrictions-requires-2 t c =
    let top = c.top_variables-top_variables.ensures.value ∙ ap (λ xs. length (top_variables xs)) (c.variables.ensures.value ∙ c.order.ensures.value) in
    let less : 3 - (c.args.level + 1) < t = omega arith in (
      less,
      (
        parts_follow _ _ _ c.of_restrictions.ensures.made.follows c.requires.session,
        (
          c.requires.kind,
          (
            c.requires.output,
            (
              omega arith,
              subst (λ k. k < 2 ^ (c.args.level + 1)) (sym (path_up 64 c.args.level c.args.path _ (omega arith) refl))
                  (path_small c.args.level c.args.path c.requires.path),
            ),
          ),
        ),
      ),
    )

pub returns-clause-made : goal.returns-clause-made
returns-clause-made t c =
    let top = c.top_variables-top_variables.ensures.value ∙ ap (λ xs. length (top_variables xs)) (c.variables.ensures.value ∙ c.order.ensures.value) in
    let size = length-take 2 (order_of c.args.store.now.plan) in
    let on = follows_trans _ _ _ c.of_restrictions.ensures.made.follows c.of_restrictions-2.ensures.made.follows in
    makes_node _ _ _ c.args.store.now c.make.result _ _ _ _ _ on c.make.ensures.goes_on (on.store ∙ c.requires.session.same)
    c.make.ensures.node c.make.ensures.full (λ id m.
    restricted_node c.args.store.now c.of_restrictions.new.session c.of_restrictions-2.new.session c.make.new.session c.args.level
    c.args.path c.in_ok-low.low c.in_ok-high.high id (output_at c.args.store.now.plan.problem.value c.args.output)
    (c.of_restrictions.ensures.made.follows.store ∙ c.requires.session.same) c.of_restrictions-2.ensures.made.follows c.make.ensures.goes_on.follows
    c.order.ensures.plan.order.order (omega arith) c.requires.path c.in_ok-low.ensures.made.function
    (subst (λ k. Means c.of_restrictions-2.new.session c.in_ok-high.high
    (fixed (take (c.args.level + 1) (order_of c.args.store.now.plan)) k (output_at c.args.store.now.plan.problem.value c.args.output)))
    (path_up 64 c.args.level c.args.path _ (omega arith) refl) c.in_ok-high.ensures.made.function) m)

pub returns-in_err-high-clause-made : goal.returns-in_err-high-clause-made
returns-in_err-high-clause-made t c =
    makes_refused _ _ _ _ _ _ _ c.of_restrictions.ensures.made.follows c.in_err-high.ensures.made c.from_residual-in_err-high.ensures.0

pub returns-then-level-top_variables-clause-kept : goal.returns-then-level-top_variables-clause-kept
returns-then-level-top_variables-clause-kept t c = keeps_step c.args.session.now c.part_id.new.session c.part_id.ensures.follows c.part_id.ensures.made

pub returns-in_err-high-clause-kept : goal.returns-in_err-high-clause-kept
returns-in_err-high-clause-kept t c = λ all. c.of_restrictions-2.ensures.kept (c.of_restrictions.ensures.kept all)

pub returns-clause-kept : goal.returns-clause-kept
returns-clause-kept t c =
    let top = c.top_variables-top_variables.ensures.value ∙ ap (λ xs. length (top_variables xs)) (c.variables.ensures.value ∙ c.order.ensures.value) in
    let size = length-take 2 (order_of c.args.store.now.plan) in
    keeps_node c.args.store.now c.args.session.now c.of_restrictions.new.session c.of_restrictions-2.new.session c.make.new.session c.args.level
    c.args.path c.in_ok-low.low c.in_ok-high.high c.args.output c.of_restrictions.ensures.kept c.of_restrictions-2.ensures.kept
    (c.of_restrictions.ensures.made.follows.store ∙ c.requires.session.same) c.of_restrictions-2.ensures.made.follows c.make.ensures.goes_on.follows
    c.make.ensures.made c.order.ensures.plan.order.order (omega arith) c.requires.path c.requires.output c.in_ok-low.ensures.made.function
    (subst (λ k. Means c.of_restrictions-2.new.session c.in_ok-high.high
    (fixed (take (c.args.level + 1) (order_of c.args.store.now.plan)) k (output_at c.args.store.now.plan.problem.value c.args.output)))
    (path_up 64 c.args.level c.args.path _ (omega arith) refl) c.in_ok-high.ensures.made.function)

pub make-requires-clause-high : goal.make-requires-clause-high
make-requires-clause-high t c = search rules

pub of_restrictions-requires : goal.of_restrictions-requires
of_restrictions-requires t c = grind (arith, common_steps)

pub make-requires-clause-low : goal.make-requires-clause-low
make-requires-clause-low t c =
    let below = c.in_ok-low.ensures.level in
    known_below_follows c.of_restrictions.new.session c.of_restrictions-2.new.session c.args.level c.in_ok-low.low
    c.of_restrictions-2.ensures.made.follows (c.in_ok-low.ensures.made.function.known, omega (arith, below))

pub make-requires-clause-level : goal.make-requires-clause-level
make-requires-clause-level t c =
    let top = c.top_variables-top_variables.ensures.value ∙ ap (λ xs. length (top_variables xs)) (c.variables.ensures.value ∙ c.order.ensures.value) in
    omega (arith, length-take 2 (order_of c.args.store.now.plan))

pub returns-clause-level : goal.returns-clause-level
returns-clause-level t c = ok_same _ _ c.make.result c.make.ensures.node (λ id n. n.depth)
