-- The truth tables of a diagram of some functions are theirs.
use Rattle.std.proofs.Common.{◌≡◌, ℕ, zero, suc, ◌<◌, ◌^◌, Bool, List, [], ◌∷◌, map, length, get_or, refl, ap, ap₂, ◌∙◌, arith}
use Rattle.std.specs.List.{AllZip}
use Rattle.std.proofs.lemmas.List.{length-map}
use Rattle.definitions.specs.declared.refs.Ref.{Ref}
use Rattle.definitions.specs.declared.refs.Node.{Node}
use Rattle.definitions.specs.Functions.{Function, SameFunction, table, from_table}
use Rattle.definitions.specs.Problems.{TruthTables, functions, outputs_of, table_at}
use Rattle.definitions.specs.Diagrams.{Represents, IsOf, value}
use Rattle.definitions.specs.OrderedGraphs.{OrderedGraph}
use Rattle.definitions.proofs.Functions.Tables.{table_same}
use Rattle.definitions.proofs.Bits.Points.{table-from_table}
use Rattle.sifting.specs.Managed.{truth_tables_of}

abbrev AreOf : ℕ → List Node → List Ref → List Function → Type 0
AreOf n nodes roots F = AllZip (λ r f. SameFunction n (value nodes r) f) roots F

as_many : (n : ℕ) (nodes : List Node) (roots : List Ref) (F : List Function) → AreOf n nodes roots F → length roots ≡ length F
as_many n nodes [] [] z = refl
as_many n nodes [] (f ∷ F) z = absurd z
as_many n nodes (r ∷ roots) [] z = absurd z
as_many n nodes (r ∷ roots) (f ∷ F) z = ap suc (as_many n nodes roots F z.1)

same_tables : (n : ℕ) (nodes : List Node) (roots : List Ref) (F : List Function) → AreOf n nodes roots F →
    map (λ r. table n (value nodes r)) roots ≡ map (table n) F
same_tables n nodes [] [] z = refl
same_tables n nodes [] (f ∷ F) z = absurd z
same_tables n nodes (r ∷ roots) [] z = absurd z
same_tables n nodes (r ∷ roots) (f ∷ F) z = ap₂ (λ t ts. t ∷ ts) (table_same n (value nodes r) f z.0) (same_tables n nodes roots F z.1)

pub roots_many : (n : ℕ) (F : List Function) (order : List ℕ) (d : OrderedGraph) → Represents n F order d.graph → length d.graph.roots ≡ length F
unfolding IsOf
roots_many n F order d r = as_many n d.graph.nodes d.graph.roots F r.functions

pub tables_same : (n : ℕ) (F : List Function) (order : List ℕ) (d : OrderedGraph) → length d.order ≡ n → Represents n F order d.graph →
    truth_tables_of d ≡ record { inputs = n; tables = map (table n) F }
unfolding IsOf truth_tables_of
tables_same n F order d e r =
    (λ i. record { inputs = e i; tables = map (λ v. table (e i) (value d.graph.nodes v)) d.graph.roots })
    ∙ ap (λ (ts : List (List Bool)). record { inputs = n; tables = ts }) (same_tables n d.graph.nodes d.graph.roots F r.functions)

tables_back : (n : ℕ) (ts : List (List Bool)) → ((j : ℕ) → j < length ts → length (get_or ts j []) ≡ 2 ^ n) → map (table n) (map from_table ts) ≡ ts
tables_back n [] whole = refl
tables_back n (t ∷ ts) whole = ap₂ (λ u us. u ∷ us) (table-from_table n t (whole zero (omega arith))) (tables_back n ts (λ j h. whole (suc j) (omega arith)))

pub problem_same : (t : TruthTables) → ((j : ℕ) → j < outputs_of t → length (table_at t j) ≡ 2 ^ t.inputs) →
    (order : List ℕ) (d : OrderedGraph) → length d.order ≡ t.inputs →
    Represents t.inputs (functions t) order d.graph → truth_tables_of d ≡ t
problem_same t whole order d e r =
    tables_same t.inputs (functions t) order d e r
    ∙ ap (λ (ts : List (List Bool)). record { inputs = t.inputs; tables = ts }) (tables_back t.inputs t.tables whole)

pub problem_roots : (t : TruthTables) (order : List ℕ) (d : OrderedGraph) → Represents t.inputs (functions t) order d.graph →
    length d.graph.roots ≡ outputs_of t
problem_roots t order d r = roots_many t.inputs (functions t) order d r ∙ length-map t.tables from_table
