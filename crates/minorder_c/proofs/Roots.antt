-- The roots and nodes of a diagram.
--     roots_long      there is a root for each output
--     optimum_nodes      under the order of the fewest nodes there are as many nodes as its size
use Rattle.std.proofs.Common.{◌≡◌, ℕ, List, length, map, sym, ◌∙◌}
use Rattle.std.proofs.lemmas.List.{length-map}
use Rattle.definitions.specs.Functions.{SameFunction, from_table}
use Rattle.definitions.specs.Pairs.{Pair}
use Rattle.definitions.specs.Diagrams.{IsOf, value}
use Rattle.definitions.proofs.Bits.Problems.{length-tables_of}
use Rattle.definitions.proofs.Nodes.Construction.{zip_length}
use Rattle.truth_table.specs.declared.levels.NumberedNode.{NumberedNode}
use Rattle.truth_table.specs.Levels.{node_named, ref_named}
use Rattle.truth_table.proofs.Sizes.{diagram_size}
use Rattle.minorder_c.specs.declared.arguments.GivenTables.{GivenTables}
use Rattle.minorder_c.specs.Answers.{IsFirstFewestOf, functions_in, tables_in}
use Rattle.minorder_c.specs.Diagrams.{IsDiagramFor}

pub roots_long : (given : GivenTables) (order : List ℕ) (nodes : List NumberedNode) (roots : List ℕ) → IsDiagramFor given order nodes roots →
    length roots ≡ given.outputs
unfolding IsOf
roots_long given order nodes roots is =
    let t = tables_in given in
    sym (length-map roots ref_named)
    ∙ zip_length (λ r f. SameFunction given.inputs (value (map node_named nodes) r) f) (map ref_named roots) (functions_in given) is.diagram.diagram.functions
    ∙ length-map t.tables from_table ∙ length-tables_of given.inputs given.outputs given.words.now

pub optimum_nodes : (given : GivenTables) (P : List Pair) (order levels : List ℕ) (total : ℕ) (nodes : List NumberedNode) (roots : List ℕ) →
    IsFirstFewestOf given P order levels total → IsDiagramFor given order nodes roots → length nodes ≡ total
optimum_nodes given P order levels total nodes roots best is =
    sym (length-map nodes node_named) ∙ diagram_size given.inputs (functions_in given) order _ best.first.fewest.is_order is.diagram ∙ sym best.size
