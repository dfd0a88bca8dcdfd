-- The rows of all sets.
--     row_is      a row with all members of its set
--     AllTo, all_none, all_pushed      rows one mask after another
use Rattle.std.proofs.Common.{◌≡◌, ℕ, ◌+◌, ◌^◌, ◌<◌, true, false, cond, ◌&&◌, inl, inr, List, [], ◌∷◌, ◌++◌, length, length-append, get_or, Bool, sym, ap, ◌∙◌, arith, refl, eq-eqb, ne_eqb}
use Rattle.std.specs.Prelude.{◌==◌}
use Rattle.std.specs.Int.{bit_at}
use Rattle.std.proofs.lemmas.Bool.{cases_lt, cases_eq}
use Rattle.std.proofs.lemmas.List.{get_or_append_left, get_or_push}
use Rattle.definitions.specs.AllOrders.{AreWidthsIn, width_in}
use Rattle.definitions.specs.Functions.{Function}
use Rattle.definitions.specs.Orders.{has, members, variables, without}
use Rattle.definitions.specs.Problems.{TruthTables, functions}
use Rattle.definitions.specs.Widths.{width}
use Rattle.definitions.proofs.Bits.Masks.{has_members}
use Rattle.compaction.specs.Rows.{IsWidthRow, width_wanted}
use Rattle.compaction.proofs.OwnMembers.{bit_member}

none_left : (b : Bool) → (b && false) ≡ false
none_left true = refl
none_left false = refl

-- whether a variable is a member, by its bit
bit_is_member : (n set x : ℕ) → set < 2 ^ n → (bit_at set x == 1) ≡ has (members n set) x
bit_is_member n set x small = elim (cases_eq (bit_at set x) 1) [
  | inl one ↦ eq-eqb (bit_at set x) 1 one ∙ sym (bit_member n set x small one)
  | inr other ↦
      ne_eqb (bit_at set x) 1 other
      ∙ sym (has_members n set x ∙ ap (λ b. has (variables n) x && b) (ne_eqb (bit_at set x) 1 other) ∙ none_left (has (variables n) x))
]

-- a row with all members of its set
pub row_is : (p : TruthTables) (set : ℕ) (row : List ℕ) → set < 2 ^ p.inputs → IsWidthRow p set set row → AreWidthsIn p.inputs (functions p) set row
unfolding width_wanted width_in
row_is p set row small is x few =
    is x few ∙ ap (λ b. cond b (width p.inputs (functions p) (without x (members p.inputs set)) x) 0) (bit_is_member p.inputs set x small)

-- the rows of the masks below k
pub record AllTo (n : ℕ) (F : List Function) (k : ℕ) (rows : List (List ℕ)) : Type 0 where
  pub each : length rows ≡ k
  pub are : (mask : ℕ) → mask < k → AreWidthsIn n F mask (get_or rows mask [])

pub all_none : (n : ℕ) (F : List Function) → AllTo n F 0 []
all_none n F = grind arith

pub all_pushed : (n : ℕ) (F : List Function) (k : ℕ) (rows : List (List ℕ)) (row : List ℕ) → AllTo n F k rows → AreWidthsIn n F k row →
    AllTo n F (k + 1) (rows ++ row ∷ [])
all_pushed n F k rows row r is = grind (arith, length-append, cases_lt, get_or_append_left, get_or_push)
