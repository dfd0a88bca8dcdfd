-- Rows of a block's sets, from those of their low byte.
--     block_of_byte      the sets of a block have its low byte
--     row_of_byte      the row of a set of the byte, of some of the members that are wanted
--     RowsTo, rows_none, rows_pushed, rows_all      rows found one after another
use Rattle.std.proofs.Common.{◌≡◌, ℕ, ◌+◌, ◌*◌, ◌/◌, ◌%◌, ◌^◌, ◌<◌, cond, eqb, inl, inr, List, [], ◌∷◌, ◌++◌, length, length-append, slice_index, get_or, sym, ap, ◌∙◌, subst, arith, eq-eqb, ne_eqb}
use Rattle.std.specs.Int.{bit_at}
use Rattle.std.proofs.lemmas.Bool.{cases_lt, cases_eq}
use Rattle.std.proofs.lemmas.List.{get_or_append_left, get_or_push}
use Rattle.definitions.specs.Orders.{members, without}
use Rattle.definitions.specs.Problems.{TruthTables, functions}
use Rattle.definitions.specs.Widths.{width}
use Rattle.definitions.proofs.Lists.Orders.{has_at}
use Rattle.subset_layers.specs.Layers.{BlockOf, block_masks}
use Rattle.subset_layers.proofs.BlockLists.{in_block}
use Rattle.compaction.specs.Requests.{asked}
use Rattle.compaction.specs.Rows.{width_wanted, AreByteRows, HoldsWidths, IsWidthRow, AreWidthRows}

pub block_of_byte : (b : BlockOf) (i : ℕ) → i < length (block_masks b) →
    (slice_index (block_masks b) i < 2 ^ b.inputs) × (slice_index (block_masks b) i % 256 ≡ b.low)
block_of_byte b i lt = in_block b (slice_index (block_masks b) i) (has_at (block_masks b) i lt)

-- a row cut down to some of the members that are wanted
row_narrowed : (p : TruthTables) (set more wanted : ℕ) (row narrow : List ℕ) → HoldsWidths p set more row →
    ((x : ℕ) → bit_at wanted x ≡ 1 → bit_at more x ≡ 1) →
    ((x : ℕ) → x < 16 → slice_index narrow x ≡ cond (eqb (bit_at wanted x) 1) (slice_index row x) 0) → IsWidthRow p set wanted narrow
unfolding width_wanted
row_narrowed p set more wanted row narrow holds inside each x few = elim (cases_eq (bit_at wanted x) 1) [
  | inl one ↦
      each x few
      ∙ ap (λ b. cond b (slice_index row x) 0) (eq-eqb (bit_at wanted x) 1 one)
      ∙ holds x few (inside x one)
      ∙ ap (λ b. cond b (width p.inputs (functions p) (without x (members p.inputs set)) x) 0) (sym (eq-eqb (bit_at wanted x) 1 one))
  | inr other ↦
      each x few
      ∙ ap (λ b. cond b (slice_index row x) 0) (ne_eqb (bit_at wanted x) 1 other)
      ∙ ap (λ b. cond b (width p.inputs (functions p) (without x (members p.inputs set)) x) 0) (sym (ne_eqb (bit_at wanted x) 1 other))
]

pub row_of_byte : (p : TruthTables) (low : ℕ) (needed : List ℕ) (rows : List (List ℕ)) (set wanted : ℕ) (narrow : List ℕ) →
    AreByteRows p low needed rows → set % 256 ≡ low → set / 256 < length needed →
    ((x : ℕ) → bit_at wanted x ≡ 1 → bit_at (asked needed set) x ≡ 1) →
    ((x : ℕ) → x < 16 → slice_index narrow x ≡ cond (eqb (bit_at wanted x) 1) (slice_index (get_or rows (set / 256) []) x) 0) →
    IsWidthRow p set wanted narrow
row_of_byte p low needed rows set wanted narrow are byte there inside each =
    let e : set / 256 * 256 + low ≡ set = omega arith in
    row_narrowed p set (asked needed set) wanted (get_or rows (set / 256) []) narrow
    (subst (λ t. HoldsWidths p t (asked needed set) (get_or rows (set / 256) [])) e (are.are (set / 256) there)) inside each

-- the rows of the first k sets
pub record RowsTo (p : TruthTables) (masks needed : List ℕ) (k : ℕ) (rows : List (List ℕ)) : Type 0 where
  pub each : length rows ≡ k
  pub are : (i : ℕ) → i < k → IsWidthRow p (slice_index masks i) (slice_index needed i) (get_or rows i [])

pub rows_none : (p : TruthTables) (masks needed : List ℕ) → RowsTo p masks needed 0 []
rows_none p masks needed = grind arith

pub rows_pushed : (p : TruthTables) (masks needed : List ℕ) (k : ℕ) (rows : List (List ℕ)) (row : List ℕ) →
    RowsTo p masks needed k rows → IsWidthRow p (slice_index masks k) (slice_index needed k) row → RowsTo p masks needed (k + 1) (rows ++ row ∷ [])
rows_pushed p masks needed k rows row r is = grind (arith, length-append, cases_lt, slice_index, get_or_append_left, get_or_push)

pub rows_all : (p : TruthTables) (masks needed : List ℕ) (k : ℕ) (rows : List (List ℕ)) → k ≡ length masks → RowsTo p masks needed k rows →
    AreWidthRows p masks needed rows
rows_all p masks needed k rows e r = grind arith
