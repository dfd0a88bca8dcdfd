-- The widths of a set's members in its row, and how large costs and widths are.
--     row_at      the width of a member
--     costs_small, width_small      lists and levels of at most 16 functions of at most 16 variables
use Rattle.std.proofs.Common.{◌≡◌, ℕ, ◌+◌, ◌-◌, ◌^◌, ◌<◌, ◌≤◌, true, false, not, cond, ◌&&◌, inl, inr, List, ◌∷◌, length, slice_index, refl, sym, ap, ◌∙◌, subst, arith, nat_eq, eq-eqb}
use Rattle.std.specs.Int.{bit_at}
use Rattle.std.specs.List.{IsDistinct}
use Rattle.std.proofs.lemmas.Bool.{cases_eq, cases_lt, ne_eqb, or_cases}
use Rattle.definitions.specs.Functions.{Function}
use Rattle.definitions.specs.Orders.{has, members, without}
use Rattle.definitions.specs.Pairs.{Pair}
use Rattle.definitions.specs.Widths.{cost, width}
use Rattle.definitions.specs.AllOrders.{AreWidthsIn, lawful_lists, ways, width_in}
use Rattle.definitions.proofs.Bits.Masks.{distinct_members, members_small}
use Rattle.definitions.proofs.Lists.Sets.{Among}
use Rattle.definitions.proofs.Lists.Sums.{sum_nothing}
use Rattle.definitions.proofs.Precedence.MaskLaws.{member_from}
use Rattle.definitions.proofs.Widths.Recurrence.{apart_from_absent, has_without}
use Rattle.definitions.proofs.Widths.AllOrders.{from_lists, members_less}
use Rattle.definitions.proofs.Widths.OrderSizes.{cost_small}

-- the width of a member in its set's row
pub row_at : (n : ℕ) (F : List Function) (set x : ℕ) (row : List ℕ) → n ≤ 16 → AreWidthsIn n F set row → x < n → bit_at set x ≡ 1 →
    slice_index row x ≡ width n F (members n (set - 2 ^ x)) x
unfolding width_in
row_at n F set x row few are small bit =
    let member = member_from n set x small bit in
    are x (omega arith) ∙ ap (λ b. cond b (width n F (without x (members n set)) x) 0) member ∙ ap (λ T. width n F T x) (members_less n set x member)

module _ (n : ℕ) (F : List Function) (few : n ≤ 16) (outputs : length F ≤ 16) where
  each_small : (P : List Pair) (mask : ℕ) (xs : List ℕ) → Among xs (lawful_lists P (members n mask)) → cost n F xs ≤ 262148
  each_small P mask xs m =
      let a = (from_lists P (members n mask) xs (distinct_members n mask) m).arrangement in
      cost_small n F xs few outputs a.once (λ y h. members_small n mask y (sym (a.members y) ∙ h))

  pub no_large : (P : List Pair) (mask c : ℕ) → 262148 < c → ways n F P (members n mask) c ≡ 0
  unfolding ways
  no_large P mask c lt =
      sum_nothing (λ xs. cond (nat_eq (cost n F xs) c) 1 0) (lawful_lists P (members n mask))
      (λ xs m. ap (λ b. cond b 1 0) (ne_eqb (cost n F xs) c (λ e. absurd (let le = each_small P mask xs m in omega arith))))

  -- a cost that some list of a set has is small
  pub costs_small : (P : List Pair) (mask c : ℕ) → 0 < ways n F P (members n mask) c → c ≤ 262148
  costs_small P mask c some =
      elim (cases_lt 262148 c) [ inl lt ↦ absurd (let none = no_large P mask c lt in omega arith) | inr le ↦ le ]

  -- so is the width of a member
  pub width_small : (set x : ℕ) → x < n → bit_at set x ≡ 1 → width n F (members n (set - 2 ^ x)) x ≤ 262148
  unfolding cost IsDistinct
  width_small set x small bit =
      let T = members n (set - 2 ^ x) in
      let le : width n F (members n (set - 2 ^ x)) x + cost n F (members n (set - 2 ^ x)) ≤ 262148 =
      cost_small n F (x ∷ members n (set - 2 ^ x)) few outputs (apart_from_absent x (members n (set - 2 ^ x)) absent, distinct_members n (set - 2 ^ x)) below in
      omega arith
    where
      member : has (members n set) x ≡ true
      member = member_from n set x small bit

      absent : has (members n (set - 2 ^ x)) x ≡ false
      absent =
          ap (λ S. has S x) (sym (members_less n set x member)) ∙ has_without x (members n set) x
          ∙ ap (λ b. has (members n set) x && not b) (eq-eqb x x refl) ∙ ap (λ b. b && false) member

      below : (y : ℕ) → has (x ∷ members n (set - 2 ^ x)) y ≡ true → y < n
      below y h = elim (or_cases (nat_eq y x) (has (members n (set - 2 ^ x)) y) h) [
        | inl e ↦ elim (cases_eq y x) [ inl same ↦ subst (λ k. k < n) (sym same) small | inr ne ↦ absurd (true_false (sym e ∙ ne_eqb y x ne)) ]
        | inr m ↦ members_small n (set - 2 ^ x) y m
      ]
        where
          true_false : true ≡ false → ⊥
          true_false e = cc
