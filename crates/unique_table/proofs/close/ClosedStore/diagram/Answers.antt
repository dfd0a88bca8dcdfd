use Rattle.std.proofs.Common.{◌≡◌, ℕ, List, map, take, length, ◌∙◌, sym, ap, subst}
use Rattle.std.specs.List.{All}
use Rattle.std.specs.Slots.{slots_items}
use Rattle.definitions.specs.Diagrams.{Graph, Represents}
use Rattle.definitions.specs.Problems.{functions}
use Rattle.node_words.specs.Nodes.{IsKnown}
use Rattle.node_words.specs.Meaning.{function_of}
use Rattle.unique_table.specs.declared.close.ClosedStore.TheInside as closed
use Rattle.unique_table.specs.Plans.{order_of, levels_of}
use Rattle.unique_table.specs.Invariant.{nodes_of}
use Rattle.unique_table.specs.Closed.{closed_store, IsClosedStore}
use Rattle.unique_table.specs.Closing.{ClosedStoreOf, AreFinal}
use Rattle.unique_table.proofs.Roots.{ids_known, ids_represent}
use Rattle.unique_table.proofs.close.ClosedStore.diagram.Goals as goal

-- the words of nodes, as the code finds them
nodes_found : (c : closed.Inside) (C : ClosedStoreOf) → IsClosedStore c → closed_store c ≡ C →
    nodes_of C.plan C.words ≡ take c.places (slots_items c.closed.words)
nodes_found c C k is = ap (λ (z : ClosedStoreOf). nodes_of z.plan z.words) (sym is) ∙ ap (λ (n : ℕ). take n (slots_items c.closed.words)) (sym k.places)

pub reached_nodes-made-requires-clause-known : goal.reached_nodes-made-requires-clause-known
reached_nodes-made-requires-clause-known c =
    subst (λ (ws : List ℕ). All (IsKnown ws) c.as_slice.result.now) (nodes_found c.self.inside c.args.self c.self.invariant c.self.view_is)
    (ids_known c.args.self (subst AreFinal c.self.view_is c.self.invariant.final) c.in-Ok.ensures.roots c.as_slice.result.now
    (c.as_slice.ensures.value ∙ c.in-Ok.ensures.ids))

pub returns-clause-diagram : goal.returns-clause-diagram
returns-clause-diagram c =
    let k = c.self.invariant in let ids : List ℕ = c.as_slice.result.now in
    let order : c.variables-order.result.now ≡ order_of c.args.self.plan =
    c.variables-order.ensures.value ∙ (k.order ∙ ap (λ (z : ClosedStoreOf). order_of z.plan) c.self.view_is) in
    let nodes = nodes_found c.self.inside c.args.self k c.self.view_is in
    let found : Graph = record { nodes = c.in-Ok-made.reached.nodes.items; roots = c.in-Ok-made.reached.roots.items } in
    subst (λ (d : Graph). Represents (levels_of c.args.self.plan) (functions c.args.self.plan.problem.value) (order_of c.args.self.plan) d)
    (λ i. record { nodes = sym c.new.ensures.nodes i; roots = sym c.new.ensures.roots i })
    (ids_represent c.args.self (subst AreFinal c.self.view_is k.final) c.in-Ok.ensures.roots ids
    (c.as_slice.ensures.value ∙ c.in-Ok.ensures.ids) found
    (subst (λ (z : List ℕ × List ℕ). Represents (length z.0) (map (function_of z.0 z.1) ids) z.0 found) (λ i. (order i, sym nodes i))
    c.in-Ok-made.ensures.represents))
