use Rattle.std.proofs.Common.{sym, subst, ◌∙◌, arith}
use Rattle.definitions.specs.Orders.{IsOrder}
use Rattle.minorder_c.proofs.Roots.{roots_long}
use Rattle.minorder_c.proofs.diagrams.diagram_of.Goals as goal

pub returns-clause-roots : goal.returns-clause-roots
returns-clause-roots c =
    let m = c.make_diagram.new.memory in
    let long = roots_long c.args.given.now _ m.nodes.items m.roots.items c.in_ok-make_diagram.ensures.diagram in
    omega arith

pub make_diagram-requires-clause-order : goal.make_diagram-requires-clause-order
make_diagram-requires-clause-order c =
    let shape = c.has_call_shape.ensures.0 c.if-not-has_call_shape.false in
    subst (λ z. z) (λ i. IsOrder (shape.places_are i) (sym (c.variables.ensures.value ∙ c.in_ok-order.ensures.value) i)) c.in_ok-order.ensures.order

pub returns-clause-order : goal.returns-clause-order
returns-clause-order c =
    let shape = c.has_call_shape.ensures.0 c.if-not-has_call_shape.false in
    subst (λ n. IsOrder n c.args.order.now) shape.places_are c.in_ok-order.ensures.order
