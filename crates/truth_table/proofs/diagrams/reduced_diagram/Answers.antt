use Rattle.std.proofs.Common.{◌≡◌, ◌≤◌, length, map, sym, ap, subst, arith}
use Rattle.std.proofs.lemmas.List.{length-map}
use Rattle.std.proofs.lemmas.Result.{IfOk-weaker}
use Rattle.definitions.specs.OrderedGraphs.{OrderedGraph}
use Rattle.definitions.specs.Problems.{functions}
use Rattle.truth_table.specs.Levels.{node_named}
use Rattle.truth_table.specs.Reduced.{IsByLevel, IsDiagramOf, IsNumberedDiagram, graph_named}
use Rattle.truth_table.proofs.diagrams.reduced_diagram.Goals as goal

pub returns-clause-diagram : goal.returns-clause-diagram
returns-clause-diagram c =
    let t = c.args.tables.now in
    let m = c.draw_tables.new.memory in
    let is = subst (λ xs. IsNumberedDiagram t.inputs (functions t) xs m.nodes.items m.roots.items) c.variables.ensures.value
    c.in_ok-draw_tables.ensures.diagram in
    IfOk-weaker c.diagram_of.result (λ d. d ≡ record { order = c.args.order.now; graph = graph_named m.nodes.items m.roots.items })
    (IsDiagramOf t.inputs (functions t) c.args.order.now)
    (λ d e. subst (IsDiagramOf t.inputs (functions t) c.args.order.now) (sym e) is.diagram) c.diagram_of.ensures

pub returns-clause-by_level : goal.returns-clause-by_level
returns-clause-by_level c =
    let t = c.args.tables.now in
    let m = c.draw_tables.new.memory in
    let by_level = subst (λ xs. IsByLevel xs (map node_named m.nodes.items)) c.variables.ensures.value c.in_ok-draw_tables.ensures.diagram.by_level in
    IfOk-weaker c.diagram_of.result (λ d. d ≡ record { order = c.args.order.now; graph = graph_named m.nodes.items m.roots.items })
    (λ d. IsByLevel c.args.order.now d.graph.nodes)
    (λ d e. subst (λ (z : OrderedGraph). IsByLevel c.args.order.now z.graph.nodes) (sym e) by_level) c.diagram_of.ensures

pub returns-clause-few : goal.returns-clause-few
returns-clause-few c =
    let m = c.draw_tables.new.memory in
    let few = c.in_ok-draw_tables.ensures.few in
    IfOk-weaker c.diagram_of.result (λ d. d ≡ record { order = c.args.order.now; graph = graph_named m.nodes.items m.roots.items })
    (λ d. length d.graph.nodes ≤ 1048576)
    (λ d e. omega (arith, ap (λ (z : OrderedGraph). length z.graph.nodes) e, length-map m.nodes.items node_named, few)) c.diagram_of.ensures
