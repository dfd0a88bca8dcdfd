-- Nodes of functions with the variables on top fixed.
use Rattle.std.proofs.Common.{◌≡◌, ℕ, zero, suc, ◌+◌, ◌-◌, ◌*◌, ◌/◌, ◌%◌, ◌^◌, ◌<◌, ◌≤◌, Bool, true, false, cond, if◌then◌else◌, lt-ltb, add-one, List, [], ◌∷◌, length, take, refl, sym, ap, ◌∙◌, arith, subst}
use mir.Val.{bool_byte}
use Rattle.std.proofs.lemmas.List.{take_all}
use Rattle.std.proofs.Math.Nat.{mul-le-mul_right}
use Rattle.std.proofs.lemmas.Nat.{one_shl}
use Rattle.definitions.specs.Functions.{Point, Function, SameFunction}
use Rattle.definitions.specs.Orders.{IsOrder}
use Rattle.definitions.specs.Problems.{TruthTables, outputs_of, value_at}
use Rattle.node_words.specs.Meaning.{branch}
use Rattle.unique_table.specs.declared.plan.Plan.{Plan}
use Rattle.unique_table.specs.declared.plan.PieceKind.{PieceKind}
use Rattle.unique_table.specs.declared.plan.PieceKind.TheVariants.{Restrictions, Products}
use Rattle.unique_table.specs.Plans.{order_of, levels_of, variable_at, output_at, fixed, top_variables, top_assignments, part_function, piece_function, parts_count, IsPlan}
use Rattle.unique_table.specs.Sessions.{StoreId, Knowledge, Follows, Means, function_in}
use Rattle.dd_builder.specs.Building.{AreRestrictions}
use Rattle.dd_builder.specs.Paths.{IsPointOf}
use Rattle.dd_builder.proofs.SessionSteps.{means_same, means_at, function_zero, function_one, terminal_known}
use Rattle.dd_builder.proofs.LevelOperations.{branch_same}
use Rattle.dd_builder.proofs.Restrictions.{fixed_point, fixed_step}

-- the id of a terminal
constant : (s : Knowledge) (b : Bool) (p : Point) → function_in s (cond b 1 0) p ≡ b
constant s true p = function_one s p
constant s false p = function_zero s p

constant_low : (b : Bool) → cond b 1 0 < 2
constant_low true = omega arith
constant_low false = omega arith

byte : (b : Bool) → bool_byte b ≡ cond b 1 0
byte true = refl
byte false = refl

pub constant_means : (s : Knowledge) (b : Bool) (f : Function) → ((p : Point) → length p ≡ levels_of s.store.plan → f p ≡ b) → Means s (cond b 1 0) f
unfolding SameFunction
constant_means s b f same = record { known = terminal_known s (cond b 1 0) (constant_low b); function = λ p l. constant s b p ∙ sym (same p l) }

-- an output with all variables fixed
pub output_leaf : (s : Knowledge) (order : List ℕ) (level path point id output : ℕ) (t : TruthTables) (b : Bool) →
    order_of s.store.plan ≡ order → IsOrder (length order) order → length order ≤ level
    → IsPointOf order path point → b ≡ value_at t output point → id ≡ bool_byte b → Means s id (fixed (take level order) path (output_at t output))
unfolding output_at
output_leaf s order level path point id output t b same is past at value terminal = grind (arith, byte, constant_means, take_all, fixed_point)

-- the branch of two functions in which one more variable is fixed
pub restricted_same : (store : StoreId) (s3 : Knowledge) (level path low high : ℕ) (f : Function) → s3.store ≡ store →
    IsOrder (levels_of store.plan) (order_of store.plan) → level < levels_of store.plan → path < 2 ^ level →
    Means s3 low (fixed (take (level + 1) (order_of store.plan)) path f) →
    Means s3 high (fixed (take (level + 1) (order_of store.plan)) (path + 2 ^ level) f)
    → (p : Point) → length p ≡ levels_of s3.store.plan →
    branch (variable_at store.plan level) (function_in s3 low) (function_in s3 high) p ≡ fixed (take level (order_of store.plan)) path f p
restricted_same store s3 level path low high f here is inside small l3 u3 p l =
    branch_same (variable_at store.plan level) (function_in s3 low) (function_in s3 high)
    (fixed (take (level + 1) (order_of store.plan)) path f) (fixed (take (level + 1) (order_of store.plan)) (path + 2 ^ level) f) p
    (means_at s3 low _ p l3 l) (means_at s3 high _ p u3 l)
    ∙ fixed_step (order_of store.plan) level path f p is.once inside small

-- a node above two functions in which one more variable is fixed
pub restricted_node : (store : StoreId) (s1 s2 s3 : Knowledge) (level path low high id : ℕ) (f : Function) → s1.store ≡ store →
    Follows s1 s2 → Follows s2 s3 → IsOrder (levels_of store.plan) (order_of store.plan)
    → level < levels_of store.plan → path < 2 ^ level → Means s1 low (fixed (take (level + 1) (order_of store.plan)) path f) →
    Means s2 high (fixed (take (level + 1) (order_of store.plan)) (path + 2 ^ level) f)
    → Means s3 id (branch (variable_at store.plan level) (function_in s3 low) (function_in s3 high)) →
    Means s3 id (fixed (take level (order_of store.plan)) path f)
restricted_node store s1 s2 s3 level path low high id f same f12 f23 is inside small ml mu m = grind (arith, means_same, restricted_same)

-- the program's path of the high one
pub path_up : (width level path k : ℕ) → level < width → k ≡ path + 1 * 2 ^ level % 2 ^ width → k ≡ path + 2 ^ level
path_up width level path k l e = e ∙ ap (λ z. path + z) (one_shl level width l)

pub path_small : (level path : ℕ) → path < 2 ^ level → path + 2 ^ level < 2 ^ (level + 1)
path_small level path l = subst (λ k. path + 2 ^ level < 2 ^ k) (sym (add-one level)) (omega arith)

-- ---- pieces

take_taken : (k : ℕ) (xs : List ℕ) → take (length (take k xs)) xs ≡ take k xs
take_taken zero xs = refl
take_taken (suc k) [] = refl
take_taken (suc k) (x ∷ xs) = ap (λ ys. x ∷ ys) (take_taken k xs)

part_restriction : (kind : PieceKind) (order : List ℕ) (t : TruthTables) (q : ℕ) → AreRestrictions kind →
    part_function kind order t q ≡ fixed (top_variables order) (q % top_assignments order) (output_at t (q / top_assignments order))
unfolding part_function
part_restriction Restrictions order t q h = refl
part_restriction (Products terms) order t q h = absurd h

pub part_piece : (b : Plan) (q : ℕ) → q < b.roots → piece_function b q ≡ part_function b.kind (order_of b) b.problem.value q
unfolding piece_function
part_piece b q short =
    ap (λ (c : Bool). if c then part_function b.kind (order_of b) b.problem.value q else output_at b.problem.value (q - b.roots))
    (lt-ltb q b.roots short)

pub restriction_piece : (b : Plan) (q count top_assignments' output path : ℕ) → AreRestrictions b.kind → q < b.roots →
    count ≡ length (top_variables (order_of b)) → top_assignments' ≡ 2 ^ count → output ≡ q / top_assignments' → path ≡ q % top_assignments'
    → fixed (take count (order_of b)) path (output_at b.problem.value output) ≡ piece_function b q
restriction_piece b q count top_assignments' output path is short top w o r = grind (arith, take_taken, part_restriction, part_piece)

pub restrictions_count : (kind : PieceKind) (order : List ℕ) (t : TruthTables) → AreRestrictions kind →
    parts_count kind order t ≡ outputs_of t * top_assignments order
restrictions_count Restrictions order t is = refl
restrictions_count (Products terms) order t is = absurd is

restriction_inside : (b : Plan) (count path output : ℕ) → IsPlan b → AreRestrictions b.kind → count ≡ length (top_variables (order_of b)) →
    output < outputs_of b.problem.value → path < 2 ^ count → output * 2 ^ count + path < b.roots
restriction_inside b count path output plan is top short inside = grind (arith, restrictions_count, mul-le-mul_right)

-- a part's number, as the program has it
pub restriction_at : (b : Plan) (count q output path : ℕ) → IsPlan b → AreRestrictions b.kind → output < outputs_of b.problem.value →
    count ≡ length (top_variables (order_of b)) → count ≤ 2 → output < 256 → path < 2 ^ count
    → q ≡ output * 2 ^ count % 18446744073709551616 + path → fixed (take count (order_of b)) path (output_at b.problem.value output) ≡ piece_function b q
restriction_at b count q output path h k l m e p s t = grind (arith, restriction_inside, restriction_piece)

-- with no variable fixed
pub none_fixed : (order : List ℕ) (f : Function) → fixed (take 0 order) 0 f ≡ f
unfolding fixed
none_fixed order f = refl
