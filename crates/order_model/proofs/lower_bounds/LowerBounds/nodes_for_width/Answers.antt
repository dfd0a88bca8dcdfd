use Rattle.std.proofs.Common.{◌+◌, ◌-◌, ap, ap₂, ◌∙◌, subst}
use Rattle.definitions.specs.Problems.{TruthTables, functions}
use Rattle.definitions.specs.LowerBounds.{LowerBoundsOf, HoldsLowerBounds, asked_by, functions_without}
use Rattle.order_model.proofs.lower_bounds.LowerBounds.nodes_for_width.Goals as goal

pub returns-clause-nodes : goal.returns-clause-nodes
unfolding asked_by
returns-clause-nodes c = λ w.
    let own = c.self.inside in
    let n = c.args.self.now.problem.inputs in
    let h =
    subst (λ (t : TruthTables). HoldsLowerBounds t own.essential own.dependents own.others)
    (ap (λ (r : LowerBoundsOf). r.problem) c.self.view_is) c.self.invariant in
    ap₂ (λ a b. a + b)
    (c.from.ensures ∙ c.saturating_sub-more.ensures ∙ ap₂ (λ a b. a - b) w (h.dependents_are c.args.x c.requires))
    (c.count_outside.ensures.exact n (functions_without n (functions c.args.self.now.problem) c.args.x) (h.others_are c.args.x c.requires))
