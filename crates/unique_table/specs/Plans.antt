-- What a store is for.
--     order_of, levels_of, variable_at      the order of a plan, how many levels it has, and the variable of a level
--     piece_function b q      the function of a piece
--     IsPlan b      the numbers of a plan fit one another
use Rattle.std.specs.Prelude.{◌≡◌, ℕ, ◌+◌, ◌-◌, ◌*◌, ◌/◌, ◌%◌, ◌^◌, ◌<◌, ◌≤◌, ◌==◌, nat_lt, if◌then◌else◌, List, [], ◌∷◌, length, slice_index, map, take}
use Rattle.std.specs.Int.{bit_at}
use Rattle.std.specs.List.{filter, enumerate_from}
use Rattle.definitions.specs.declared.Term.{Term}
use Rattle.definitions.specs.Functions.{Function, SameFunction, from_table, restrict}
use Rattle.definitions.specs.OrderFaults.{Accepts}
use Rattle.definitions.specs.Problems.{TruthTables, outputs_of, table_at}
use Rattle.definitions.specs.Products.{Product, product_of, product_function}
use Rattle.unique_table.specs.declared.plan.PieceKind.{PieceKind}
use Rattle.unique_table.specs.declared.plan.PieceKind.TheVariants.{Restrictions, Products}
use Rattle.unique_table.specs.declared.plan.Pieces.{Pieces}
use Rattle.unique_table.specs.declared.plan.Pieces.TheVariants.{Tables, Terms}
use Rattle.unique_table.specs.declared.plan.Plan.{Plan}

-- the order of a plan's variables
abbrev pub order_of : Plan → List ℕ
order_of b = b.order.value

-- how many levels there are
abbrev pub levels_of : Plan → ℕ
levels_of b = length (order_of b)

-- the variable of a level
abbrev pub variable_at : Plan → ℕ → ℕ
variable_at b level = slice_index (order_of b) level

-- output j of a problem
unfoldable pub output_at : TruthTables → ℕ → Function
output_at t j = from_table (table_at t j)

-- f with variables fixed to the bits of v, the first one to the lowest bit
unfoldable pub fixed : List ℕ → ℕ → Function → Function
fixed [] v f = f
fixed (x ∷ xs) v f = restrict x (bit_at v 0 == 1) (fixed xs (v / 2) f)

-- the variables on top that the pieces of tables fix: two, or the only one
abbrev pub top_variables : List ℕ → List ℕ
top_variables order = take 2 order

-- how many assignments these variables on top have
abbrev pub top_assignments : List ℕ → ℕ
top_assignments order = 2 ^ length (top_variables order)

-- the products whose number, counted from 0, leaves the remainder b when divided by 64
unfoldable pub share : ℕ → List Product → List Product
share b products = map (λ e. e.1) (filter (λ e. e.0 % 64 == b) (enumerate_from 0 products))

-- the products that terms stand for
abbrev pub products_of : TruthTables → List Term → List Product
products_of t terms = map (product_of t.inputs (outputs_of t)) terms

-- how many pieces there are besides the outputs
abbrev pub parts_count : PieceKind → List ℕ → TruthTables → ℕ
parts_count Restrictions order t = outputs_of t * top_assignments order
parts_count (Products terms) order t = outputs_of t * 64

-- the function of a piece that is a part of an output
unfoldable pub part_function : PieceKind → List ℕ → TruthTables → ℕ → Function
part_function Restrictions order t q = fixed (top_variables order) (q % top_assignments order) (output_at t (q / top_assignments order))
part_function (Products terms) order t q = product_function (share (q % 64) (products_of t terms.value)) (q / 64)

-- the function of a piece: a part of an output, or from `roots` on an output
unfoldable pub piece_function : Plan → ℕ → Function
piece_function b q = if nat_lt q b.roots then part_function b.kind (order_of b) b.problem.value q
    else output_at b.problem.value (q - b.roots)

-- the terms, if there are any, give the problem's functions
abbrev pub AreTermsOf : PieceKind → TruthTables → Type 0
AreTermsOf Restrictions t = Unit {0}
AreTermsOf (Products terms) t = (j : ℕ) → j < outputs_of t →
    SameFunction t.inputs (product_function (products_of t terms.value) j) (output_at t j)

-- the numbers of a plan are those that belong to its order, functions and kind of parts
pub record IsPlan (b : Plan) : Type 0 where
  pub places : b.places ≡ 262144
  pub entries : b.entries ≡ 65536
  pub roots : b.roots ≡ parts_count b.kind (order_of b) b.problem.value
  pub pieces : b.pieces ≡ b.roots + outputs_of b.problem.value
  pub order : Accepts (order_of b)
  pub inputs : b.problem.value.inputs ≡ levels_of b
  pub some_outputs : 1 ≤ outputs_of b.problem.value
  pub few_outputs : outputs_of b.problem.value ≤ 16
  pub terms : AreTermsOf b.kind b.problem.value

-- the plan's kind of parts is the one that the caller gave
abbrev pub IsKind : PieceKind → Pieces → Type 0
IsKind Restrictions Tables = Unit {0}
IsKind Restrictions (Terms terms) = ⊥
IsKind (Products own) Tables = ⊥
IsKind (Products own) (Terms terms) = own.value ≡ terms.now

-- the terms that the caller gave, if any, give the problem's functions
abbrev pub AreGivenBy : Pieces → TruthTables → Type 0
AreGivenBy Tables t = Unit {0}
AreGivenBy (Terms terms) t = (j : ℕ) → j < outputs_of t →
    SameFunction t.inputs (product_function (products_of t terms.now) j) (output_at t j)

-- the plan of a new store
pub record IsPlanFor (b : Plan) (given : List ℕ) (t : TruthTables) (pieces : Pieces) : Type 0 where
  pub order : order_of b ≡ given
  pub problem : b.problem.value ≡ t
  pub kind : IsKind b.kind pieces
  pub plan : IsPlan b
