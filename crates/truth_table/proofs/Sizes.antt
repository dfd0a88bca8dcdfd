-- The number of a diagram's nodes.
--     variables_below      the variables of numbered nodes
--     diagram_size      the reduced diagram under an order has as many nodes as the order's size
use Rattle.std.proofs.Common.{◌≡◌, ℕ, ◌+◌, ◌<◌, ◌≤◌, Bool, true, false, cond, ◌||◌, nat_eq, List, [], ◌∷◌, map, length, get_or, slice_get, sum, ap, ◌∙◌, arith, Some, suc, refl}
use Rattle.std.proofs.lemmas.Bool.{false≢true}
use Rattle.std.proofs.lemmas.List.{get_or-map, length-map}
use Rattle.std.proofs.lemmas.List.FromFn.{fill_by_all}
use Rattle.std.proofs.lemmas.List.Sums.{sum_by-cons}
use Rattle.std.proofs.lemmas.Option.{slice_get-get_or}
use Rattle.definitions.specs.declared.refs.Node.{Node}
use Rattle.definitions.specs.Functions.{Function}
use Rattle.definitions.specs.Diagrams.{AreNodes, nodes_at, variable_count}
use Rattle.definitions.specs.Levels.{level_count, level_counts, size_under}
use Rattle.definitions.specs.OrderedGraphs.{OrderedGraph}
use Rattle.definitions.specs.Orders.{IsOrder, has}
use Rattle.definitions.proofs.Nodes.LevelBound.{size_bound}
use Rattle.truth_table.specs.declared.levels.NumberedNode.{NumberedNode}
use Rattle.truth_table.specs.Levels.{node_named}
use Rattle.truth_table.specs.Reduced.{IsDiagramOf}
use Rattle.truth_table.proofs.Lists.{map_get}

pub variables_below : (n : ℕ) (nodes : List NumberedNode) → AreNodes n (map node_named nodes) → (k : ℕ) (d : NumberedNode) → k < length nodes →
    (get_or nodes k d).variable < n
variables_below n nodes are k d h =
    (are k (node_named (get_or nodes k d)) (map_get node_named nodes k (get_or nodes k d) (slice_get-get_or nodes k d h))).variable

-- one node more counts for its own variable
counts_more : (v : ℕ) (f g : ℕ → ℕ) → ((x : ℕ) → g x ≡ cond (nat_eq v x) 1 0 + f x) → (xs : List ℕ) →
    (sum (map f xs) ≤ sum (map g xs)) × (has xs v ≡ true → sum (map f xs) + 1 ≤ sum (map g xs))
counts_more v f g more [] = (omega arith, λ e. absurd (false≢true e))
counts_more v f g more (x ∷ xs) =
    let rest = counts_more v f g more xs in
    let a = sum_by-cons (λ y. y) (f x) (map f xs) in
    let b = sum_by-cons (λ y. y) (g x) (map g xs) in
    let here = more x in
    by (nat_eq v x) here a b rest
  where
    by : (s : Bool) → g x ≡ cond s 1 0 + f x → sum (map f (x ∷ xs)) ≡ f x + sum (map f xs) → sum (map g (x ∷ xs)) ≡ g x + sum (map g xs) →
        (sum (map f xs) ≤ sum (map g xs)) × (has xs v ≡ true → sum (map f xs) + 1 ≤ sum (map g xs)) →
        (sum (map f (x ∷ xs)) ≤ sum (map g (x ∷ xs))) × ((s || has xs v) ≡ true → sum (map f (x ∷ xs)) + 1 ≤ sum (map g (x ∷ xs)))
    by true here a b rest = let r = rest.0 in (omega arith, λ e. omega arith)
    by false here a b rest = let r = rest.0 in (omega arith, λ e. let q = rest.1 e in omega arith)

-- the nodes of some variables that all nodes have are all nodes
counted : (xs : List ℕ) (nodes : List Node) → ((k : ℕ) (node : Node) → slice_get nodes k ≡ Some node → has xs node.variable ≡ true) →
    length nodes ≤ sum (map (variable_count nodes) xs)
counted xs [] all = omega arith
counted xs (node ∷ nodes) all =
    let more = counts_more node.variable (variable_count nodes) (variable_count (node ∷ nodes))
    (λ x. sum_by-cons (λ (m : Node). cond (nat_eq m.variable x) 1 0) node nodes) xs in
    let here = more.1 (all 0 node refl) in
    omega (arith, counted xs nodes (λ k m e. all (suc k) m e))

pub diagram_size : (n : ℕ) (F : List Function) (order : List ℕ) (d : OrderedGraph) → IsOrder n order → IsDiagramOf n F order d →
    length d.graph.nodes ≡ size_under n F order
unfolding size_under level_counts nodes_at
diagram_size n F order d o is =
    let least = size_bound n F order d.graph o is.diagram in
    let all = counted order d.graph.nodes (λ k node e. (o.all node.variable).1 (is.diagram.diagram.nodes k node e).variable) in
    let levels : map (variable_count d.graph.nodes) order ≡ level_counts n F order =
    fill_by_all (level_count n F order) (map (variable_count d.graph.nodes) order) (length order) 0 (length-map order (variable_count d.graph.nodes))
    (λ k h. get_or-map (variable_count d.graph.nodes) order k 0 0 h ∙ is.levels k h) in
    omega (arith, ap sum levels)
