-- Building the reduced diagram of some functions.
--     KnowsFull s      a session knows all places of its store to be filled
--     FailsToBuild store e, IsOutOfMemory e      why a build in a store gives no diagram; a build that gives none because memory was refused
--     IsForTables b t, IsForCover b cover      a store that was made for truth tables; one that was made for a cover
--     IsDiagramFor b d      the reduced diagram of a store's functions
use Rattle.std.specs.Prelude.{◌≡◌, ◌≢◌, ℕ, ◌<◌, map, slice_index}
use Rattle.definitions.specs.OrderedGraphs.{OrderedGraph}
use Rattle.definitions.specs.Problems.{TruthTables, functions, outputs_of}
use Rattle.definitions.specs.Products.{product_of}
use Rattle.pla_reader.specs.Covers.{NamedCover}
pub use Rattle.truth_table.specs.Reduced.{HasLevelCounts, IsDiagramOf}
use Rattle.unique_table.specs.declared.plan.Plan.{Plan}
use Rattle.unique_table.specs.declared.plan.PieceKind.{PieceKind}
use Rattle.unique_table.specs.declared.plan.PieceKind.TheVariants.{Restrictions, Products}
use Rattle.unique_table.specs.Plans.{order_of, levels_of}
use Rattle.unique_table.specs.Sessions.{StoreId, Knowledge}
use Rattle.dd_builder.specs.declared.errors.BuildError.{BuildError}
use Rattle.dd_builder.specs.declared.errors.BuildError.TheVariants.{StoreFull, OutOfMemory}

-- the session knows all places of its store to be filled
abbrev pub KnowsFull : Knowledge → Type 0
KnowsFull s = (p : ℕ) → p < s.store.plan.places → slice_index s.seen p ≢ 0

-- why nothing was built in a store: a session of the store knows all places to be filled, or memory was refused
abbrev pub FailsToBuild : StoreId → BuildError → Type 0
FailsToBuild store (StoreFull s) = (s.store ≡ store) × KnowsFull s
FailsToBuild store OutOfMemory = Unit {0}

-- the fault is that memory was refused, and not that a store was full
abbrev pub IsOutOfMemory : BuildError → Type 0
IsOutOfMemory (StoreFull s) = ⊥
IsOutOfMemory OutOfMemory = Unit {0}

-- the parts are restrictions of the outputs
abbrev pub AreRestrictions : PieceKind → Type 0
AreRestrictions Restrictions = Unit {0}
AreRestrictions (Products terms) = ⊥

-- the store was made for these truth tables, with restrictions as its parts
pub record IsForTables (b : Plan) (t : TruthTables) : Type 0 where
  pub kind : AreRestrictions b.kind
  pub problem : b.problem.value ≡ t

-- the parts are made of terms that stand for the cover's products
abbrev pub AreProductsOf : NamedCover → PieceKind → Type 0
AreProductsOf cover Restrictions = ⊥
AreProductsOf cover (Products terms) = map (product_of cover.inputs cover.outputs) terms.value ≡ cover.products

-- the store was made for a problem with the cover's numbers of inputs and outputs, with parts of the cover's terms
pub record IsForCover (b : Plan) (cover : NamedCover) : Type 0 where
  pub kind : AreProductsOf cover b.kind
  pub inputs : b.problem.value.inputs ≡ cover.inputs
  pub outputs : outputs_of b.problem.value ≡ cover.outputs

-- the reduced diagram of a store's functions under its order
abbrev pub IsDiagramFor : Plan → OrderedGraph → Type 0
IsDiagramFor b d = IsDiagramOf (levels_of b) (functions b.problem.value) (order_of b) d
