-- The row of a set's widths, member by member, and the rows of all sets.
--     IsRowTo n F set from row      the widths of the members below a variable, and 0 from it on
--     row_none, row_next, row_all      at first, with the next member, and once there is none
--     AreRowsTo n F k rows      the rows of the sets with masks below k
--     rows_first, rows_more, rows_written, rows_all      of the empty set, with one set more, written in place, and of all
use Rattle.std.proofs.Common.{◌≡◌, ℕ, ◌+◌, ◌^◌, ◌<◌, ◌≤◌, true, false, cond, inl, inr, List, [], ◌∷◌, ◌++◌, length, length-append, get_or, slice_index, set, refl, sym, ap, ◌∙◌, subst, arith}
use Rattle.std.specs.Int.{bit_at}
use Rattle.std.proofs.lemmas.Bool.{cases_eq, cases_lt, false_from_ne_true}
use Rattle.std.proofs.Math.Seq.{set-append_seam}
use Rattle.std.proofs.lemmas.List.{get_or-replicate, get_or-set_other, get_or-set_same, get_or_append_left, get_or_past, get_or_push, length-set}
use Rattle.std.proofs.lemmas.Nat.Bits.{bit_at-zero}
use Rattle.definitions.specs.AllOrders.{AreAllWidths, AreWidthsIn, width_in}
use Rattle.definitions.specs.Functions.{Function}
use Rattle.definitions.specs.Orders.{has, members, without}
use Rattle.definitions.specs.Widths.{width}
use Rattle.definitions.proofs.Precedence.MaskLaws.{member_bit}

-- a row of zeros
abbrev pub zero_row : List ℕ
zero_row = 0 ∷ 0 ∷ 0 ∷ 0 ∷ 0 ∷ 0 ∷ 0 ∷ 0 ∷ 0 ∷ 0 ∷ 0 ∷ 0 ∷ 0 ∷ 0 ∷ 0 ∷ 0 ∷ []

pub all_zeros : (y : ℕ) → slice_index zero_row y ≡ 0
all_zeros y = elim (cases_lt y 16) [
  | inl lt ↦ get_or-replicate 16 y 0 0 lt
  | inr ge ↦ get_or_past zero_row y 0 ge
]

module _ (n : ℕ) (F : List Function) (mask : ℕ) where
  pub record IsRowTo (from : ℕ) (row : List ℕ) : Type 0 where
    pub long : length row ≡ 16
    pub below : (y : ℕ) → y < from → slice_index row y ≡ width_in n F mask y
    pub above : (y : ℕ) → from ≤ y → slice_index row y ≡ 0

  absent : (y : ℕ) → bit_at mask y ≡ 0 → width_in n F mask y ≡ 0
  unfolding width_in
  absent y zero =
      let no : has (members n mask) y ≡ false =
      false_from_ne_true (has (members n mask) y) (λ m. absurd (let one = (member_bit n mask y m).1 in omega arith)) in
      ap (λ b. cond b (width n F (without y (members n mask)) y) 0) no

  present : (y : ℕ) → has (members n mask) y ≡ true → width_in n F mask y ≡ width n F (without y (members n mask)) y
  unfolding width_in
  present y m = ap (λ b. cond b (width n F (without y (members n mask)) y) 0) m

  pub row_none : IsRowTo 0 zero_row
  row_none = record { long = refl; below = λ y lt. absurd (omega arith); above = λ y ge. all_zeros y }

  module _ (from : ℕ) (row : List ℕ) (h : IsRowTo from row) where
    pub row_next : (x v : ℕ) → from ≤ x → x < 16 → ((y : ℕ) → from ≤ y → y < x → bit_at mask y ≡ 0) → has (members n mask) x ≡ true →
        v ≡ width n F (without x (members n mask)) x → IsRowTo (x + 1) (set row x v)
    row_next x v le few none member is = record {
      long = length-set row x v ∙ h.long;
      below = λ y lt. elim (cases_eq y x) [
        | inl e ↦
            ap (λ k. slice_index (set row x v) k) e ∙ get_or-set_same row x v 0 (omega (arith, h.long, few)) ∙ is ∙ sym (present x member)
            ∙ ap (width_in n F mask) (sym e)
        | inr ne ↦ get_or-set_other row x y v 0 ne ∙ elim (cases_lt y from) [
          | inl before ↦ h.below y before
          | inr between ↦ h.above y between ∙ sym (absent y (none y between (omega (arith, lt, ne))))
        ]
      ];
      above = λ y ge. get_or-set_other row x y v 0 (λ e. absurd (omega (arith, ge, e))) ∙ h.above y (omega (arith, ge, le));
    }

    pub row_all : ((y : ℕ) → from ≤ y → bit_at mask y ≡ 0) → AreWidthsIn n F mask row
    row_all none = λ y few. elim (cases_lt y from) [
      | inl lt ↦ h.below y lt
      | inr ge ↦ h.above y ge ∙ sym (absent y (none y ge))
    ]

-- the rows of the sets with masks below k
pub record AreRowsTo (n : ℕ) (F : List Function) (k : ℕ) (rows : List (List ℕ)) : Type 0 where
  pub each : length rows ≡ k
  pub are : (mask : ℕ) → mask < k → AreWidthsIn n F mask (get_or rows mask [])

pub rows_more : (n : ℕ) (F : List Function) (k : ℕ) (rows : List (List ℕ)) (row : List ℕ) → AreRowsTo n F k rows → AreWidthsIn n F k row →
    AreRowsTo n F (k + 1) (rows ++ row ∷ [])
rows_more n F k rows row h is = record {
  each = length-append rows (row ∷ []) ∙ ap (λ m. m + 1) h.each;
  are = λ mask lt. elim (cases_lt mask k) [
    | inl below ↦
        subst (AreWidthsIn n F mask) (sym (get_or_append_left rows (row ∷ []) [] mask (omega (arith, h.each, below)))) (h.are mask below)
    | inr ge ↦
        let e : mask ≡ k = omega (arith, lt, ge) in
        subst (AreWidthsIn n F mask) (sym (get_or_push rows row [] mask (h.each ∙ sym e))) (subst (λ m. AreWidthsIn n F m row) (sym e) is)
  ];
}

-- a row is appended with zeros and written in place
pub rows_written : (n : ℕ) (F : List Function) (k : ℕ) (rows pushed : List (List ℕ)) (old row : List ℕ) → AreRowsTo n F k rows →
    pushed ≡ rows ++ old ∷ [] → AreWidthsIn n F k row → AreRowsTo n F (k + 1) (set pushed k row)
rows_written n F k rows pushed old row h push is =
    subst (AreRowsTo n F (k + 1))
    (sym (ap (λ (xs : List (List ℕ)). set xs k row) push ∙ ap (λ j. set (rows ++ old ∷ []) j row) (sym h.each) ∙ set-append_seam rows old [] row))
    (rows_more n F k rows row h is)

-- the empty set's row
pub rows_first : (n : ℕ) (F : List Function) → AreRowsTo n F 1 ([] ++ zero_row ∷ [])
rows_first n F =
    rows_more n F 0 [] zero_row (record { each = refl; are = λ mask lt. absurd (omega arith) })
    (λ y few. all_zeros y ∙ sym (absent n F 0 y (bit_at-zero y)))

pub rows_all : (n : ℕ) (F : List Function) (k : ℕ) (rows : List (List ℕ)) → k ≡ 2 ^ n → AreRowsTo n F k rows → AreAllWidths n F rows
rows_all n F k rows all h = record { each = h.each ∙ all; are = λ mask lt. h.are mask (omega (arith, lt, all)) }
