use Rattle.std.proofs.Common.{ℕ, map, max, sym, ap, ◌∙◌, subst}
use Rattle.std.specs.List.{fold}
use Rattle.definitions.specs.Orders.{members}
use Rattle.definitions.specs.Problems.{TruthTables, functions}
use Rattle.definitions.specs.LowerBounds.{LowerBoundsOf, HoldsLowerBounds, asked_by, nodes_above}
use Rattle.definitions.specs.declared.limits.LowerBound.{LowerBound}
use Rattle.order_model.proofs.lower_bounds.LowerBounds.above.Goals as goal

pub returns-in-Variables-clause-nodes : goal.returns-in-Variables-clause-nodes
unfolding nodes_above
returns-in-Variables-clause-nodes c = λ w.
    let own = c.self.inside in
    let n = c.args.self.now.problem.inputs in
    let F = functions c.args.self.now.problem in
    let h =
    subst (λ (t : TruthTables). HoldsLowerBounds t own.essential own.dependents own.others)
    (ap (λ (r : LowerBoundsOf). r.problem) c.self.view_is) c.self.invariant in
    c.count_outside-outside.ensures.exact n F h.essential_is
    ∙ sym (ap (λ (r : LowerBound). nodes_above n F r (members n c.args.mask))
    (sym (ap (λ (r : LowerBoundsOf). r.lower_bound) c.self.view_is) ∙ c.in-Variables.is))

pub returns-in-Widths-clause-nodes : goal.returns-in-Widths-clause-nodes
unfolding nodes_above
returns-in-Widths-clause-nodes c = λ w.
    let own = c.self.inside in
    let n = c.args.self.now.problem.inputs in
    let F = functions c.args.self.now.problem in
    let h =
    subst (λ (t : TruthTables). HoldsLowerBounds t own.essential own.dependents own.others)
    (ap (λ (r : LowerBoundsOf). r.problem) c.self.view_is) c.self.invariant in
    let widths = sym (ap (λ (r : LowerBoundsOf). r.lower_bound) c.self.view_is) ∙ c.in-Widths.is in
    c.most_asked.ensures.most (w widths)
    ∙ ap (λ (a : ℕ). fold max a (map (asked_by n F (members n c.args.mask)) (members n c.args.mask))) (c.count_outside-outside.ensures.exact n F h.essential_is)
    ∙ sym (ap (λ (r : LowerBound). nodes_above n F r (members n c.args.mask)) widths)
