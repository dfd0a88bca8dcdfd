use Rattle.std.proofs.Common.{◌<◌, ℕ, get_or, length, List, subst, sym, ap, arith}
use Rattle.std.proofs.lemmas.List.{length-map}
use Rattle.truth_table.specs.declared.levels.NumberedNode.{NumberedNode}
use Rattle.truth_table.specs.Levels.{node_named}
use Rattle.truth_table.proofs.Sizes.{variables_below}
use Rattle.truth_table.proofs.diagrams.diagram_of.Goals as goal

pub nodes_of-requires : goal.nodes_of-requires
nodes_of-requires c k d h =
    let below = variables_below (length c.args.order.now) c.args.memory.now.nodes.items c.requires.diagram.nodes in
    let here = subst (λ (ns : List NumberedNode). (i : ℕ) (e : NumberedNode) → i < length ns → (get_or ns i e).variable < length c.args.order.now)
    (sym c.deref.ensures.value) below k d h in
    omega arith

pub new-requires-clause-few : goal.new-requires-clause-few
new-requires-clause-few c = omega (arith, ap length c.in_ok-nodes.ensures, length-map c.deref.result.now node_named, ap length c.deref.ensures.value)

pub new-requires-clause-diagram : goal.new-requires-clause-diagram
new-requires-clause-diagram c =
    rw (c.in_ok-try_clone.ensures, c.in_ok-nodes.ensures, c.deref.ensures.value, c.in_ok-roots.ensures, c.deref-2.ensures.value) c.requires.diagram
