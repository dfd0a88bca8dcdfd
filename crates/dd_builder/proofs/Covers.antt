-- The functions of covers, tables and stores.
use Rattle.std.proofs.Common.{◌≡◌, ℕ, suc, ◌+◌, ◌<◌, Bool, Bor, List, [], ◌∷◌, length, map, get_or, sym, ap, ◌∙◌, arith, subst, zero-add}
use Rattle.std.specs.List.{AllZip, range_with_len}
use Rattle.std.proofs.lemmas.List.{length-map, get_or-map}
use Rattle.std.proofs.lemmas.List.FromFn.{length-map-range_with_len, get_or-map-range_with_len}
use Rattle.definitions.specs.declared.terms.Term.{Term}
use Rattle.definitions.specs.Functions.{Function, SameFunction, from_table, table}
use Rattle.definitions.specs.Diagrams.{Graph, Represents, IsReduced}
use Rattle.definitions.specs.OrderedGraphs.{OrderedGraph}
use Rattle.definitions.specs.Orders.{IsOrder}
use Rattle.definitions.specs.Problems.{TruthTables, functions, outputs_of, table_at}
use Rattle.definitions.specs.Products.{product_of, product_function, product_functions}
use Rattle.pla_reader.specs.Covers.{NamedCover, functions_of}
use Rattle.unique_table.specs.declared.plan.Plan.{Plan}
use Rattle.unique_table.specs.declared.plan.PieceKind.{PieceKind}
use Rattle.unique_table.specs.declared.plan.PieceKind.TheVariants.{Restrictions, Products}
use Rattle.unique_table.specs.declared.plan.Pieces.TheVariants.{Terms}
use Rattle.unique_table.specs.Plans.{order_of, output_at, products_of, AreTermsOf, IsKind, IsPlan}
use Rattle.unique_table.proofs.Roots.{represents_same}
use Rattle.dd_builder.specs.Building.{AreProductsOf, IsForCover, HasLevelCounts, IsDiagramOf, IsDiagramFor}
use Rattle.truth_table.specs.OfCovers.{AreTablesOf}
use Rattle.definitions.proofs.Functions.Tables.{same_sym}

-- a reduced diagram has the level counts, and the functions of tables are those that the tables were made of
abbrev pub CountsLevels : Type 0
CountsLevels = (n : ℕ) (F : List Function) (order : List ℕ) (d : Graph) → IsOrder n order → Represents n F order d → IsReduced d → HasLevelCounts n F order d

abbrev pub KeepsFunctions : Type 0
KeepsFunctions = (n : ℕ) (F : List Function) → AllZip (SameFunction n) (map from_table (map (table n) F)) F

-- the diagram of a cover's truth tables is that of the cover's functions
pub tables_diagram : CountsLevels → KeepsFunctions → (cover : NamedCover) (t : TruthTables) (order : List ℕ) (d : OrderedGraph) →
    AreTablesOf cover t → IsOrder cover.inputs order
    → IsDiagramOf t.inputs (functions t) order d → IsDiagramOf cover.inputs (functions_of cover) order d
tables_diagram counts keep cover t order d are is h = grind (arith, represents_same)

-- ---- the functions of a store for a cover

products_same : (cover : NamedCover) (kind : PieceKind) (t : TruthTables) → AreProductsOf cover kind → AreTermsOf kind t →
    t.inputs ≡ cover.inputs → outputs_of t ≡ cover.outputs
    → (j : ℕ) → j < outputs_of t → SameFunction t.inputs (product_function cover.products j) (output_at t j)
products_same cover Restrictions t is are n m j low = absurd is
products_same cover (Products own) t is are n m j low =
    subst (λ ps. SameFunction t.inputs (product_function ps j) (output_at t j)) ((λ i. map (product_of (n i) (m i)) own.value) ∙ is) (are j low)

zip_tables : (n : ℕ) (g : ℕ → Function) (a : ℕ) (tables : List (List Bool)) →
    ((j : ℕ) → j < length tables → SameFunction n (from_table (get_or tables j [])) (g (a + j)))
    → AllZip (SameFunction n) (map from_table tables) (map g (range_with_len a (length tables)))
zip_tables n g a [] h = tt
zip_tables n g a (t ∷ ts) h = (
  subst (λ k. SameFunction n (from_table t) (g k)) here (h 0 (omega arith)),
  zip_tables n g (a + 1) ts (λ j l. subst (λ k. SameFunction n (from_table (get_or ts j [])) (g k)) (next j) (h (suc j) (omega arith))),
)
  where
    here : a + 0 ≡ a
    here = omega arith

    next : (j : ℕ) → a + suc j ≡ a + 1 + j
    next j = omega arith

store_functions : (b : Plan) (cover : NamedCover) → IsPlan b → IsForCover b cover →
    AllZip (SameFunction cover.inputs) (functions b.problem.value) (functions_of cover)
unfolding output_at product_functions
store_functions b cover plan is = grind (arith, zip_tables, zero-add, same_sym, products_same)

-- the order of such a store is one of the cover's inputs
pub store_order : (b : Plan) (cover : NamedCover) (order : List ℕ) → IsPlan b → IsForCover b cover → order_of b ≡ order → IsOrder cover.inputs order
store_order b cover order plan is same =
    subst (λ xs. IsOrder cover.inputs xs) same (subst (λ n. IsOrder n (order_of b)) (sym plan.inputs ∙ is.inputs) plan.order.order)

-- the diagram of such a store is that of the cover's functions
pub store_diagram : CountsLevels → (b : Plan) (cover : NamedCover) (order : List ℕ) (d : OrderedGraph) → IsPlan b → IsForCover b cover →
    order_of b ≡ order → IsDiagramFor b d → IsDiagramOf cover.inputs (functions_of cover) order d
store_diagram counts b cover order d plan is same h =
    let at : IsDiagramOf cover.inputs (functions b.problem.value) order d =
    subst (λ xs. IsDiagramOf cover.inputs (functions b.problem.value) xs d) same
    (subst (λ n. IsDiagramOf n (functions b.problem.value) (order_of b) d) (sym plan.inputs ∙ is.inputs) h) in
    let rep : Represents cover.inputs (functions_of cover) order d.graph =
    represents_same cover.inputs (functions b.problem.value) (functions_of cover) order d.graph (store_functions b cover plan is)
    at.diagram in
    record {
      order =
          at.order;
      diagram =
          rep;
      reduced =
          at.reduced;
      levels =
          counts cover.inputs (functions_of cover) order d.graph (store_order b cover order plan is same) rep at.reduced;
    }

-- ---- a store made for a cover

outputs_are : (cover : NamedCover) (t : TruthTables) → AreTablesOf cover t → outputs_of t ≡ cover.outputs
unfolding product_functions
outputs_are cover t are = ap length are.tables
    ∙ (length-map (functions_of cover) (table cover.inputs) ∙ length-map-range_with_len (product_function cover.products) 0 cover.outputs)

pub terms_give : KeepsFunctions → (cover : NamedCover) (t : TruthTables) (terms : List Term) → AreTablesOf cover t
    → map (product_of cover.inputs cover.outputs) terms ≡ cover.products → (j : ℕ) → j < outputs_of t →
    SameFunction t.inputs (product_function (products_of t terms) j) (output_at t j)
unfolding output_at product_functions
terms_give keep cover t terms are same j low =
    let n : ℕ = cover.inputs in
    let outputs = outputs_are cover t are in
    let f : Function = product_function cover.products j in
    let products : products_of t terms ≡ cover.products = (λ i. map (product_of (are.inputs i) (outputs i)) terms) ∙ same in
    let l = length-map-range_with_len (product_function cover.products) 0 cover.outputs in
    let inside : j < length (functions_of cover) = omega (arith, l, outputs, low) in
    let at : table_at t j ≡ table n f = ap (λ ts. get_or ts j []) are.tables ∙ (get_or-map (table n) (functions_of cover) j f [] inside
    ∙ ap (table n) (get_or-map-range_with_len (product_function cover.products) 0 cover.outputs j j f (omega (arith, outputs, low)) (zero-add j))) in
    subst (λ k. SameFunction k (product_function (products_of t terms) j) (from_table (table_at t j))) (sym are.inputs)
    (subst (λ ps. SameFunction n (product_function ps j) (from_table (table_at t j))) (sym products)
    (subst (λ ts. SameFunction n f (from_table ts)) (sym at) (same_sym n (from_table (table n f)) f (keep n (f ∷ [])).0)))

kind_for : (cover : NamedCover) (kind : PieceKind) (terms : Bor (List Term)) → IsKind kind (Terms terms) →
    map (product_of cover.inputs cover.outputs) terms.now ≡ cover.products → AreProductsOf cover kind
kind_for cover Restrictions terms is same = absurd is
kind_for cover (Products own) terms is same = ap (map (product_of cover.inputs cover.outputs)) is ∙ same

pub store_for : (b : Plan) (cover : NamedCover) (t : TruthTables) (terms : Bor (List Term)) → AreTablesOf cover t → b.problem.value ≡ t →
    IsKind b.kind (Terms terms) → map (product_of cover.inputs cover.outputs) terms.now ≡ cover.products → IsForCover b cover
store_for b cover t terms are problem is same = grind (arith, kind_for, outputs_are)
