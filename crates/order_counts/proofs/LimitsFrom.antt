-- Limits that are passed on from the last sets.
--     AreLimitsFrom n F limit k limits      from the last k sets
--     limits_from_last, limits_from_more, limits_from_all      from none, from one more, and from all
use Rattle.std.proofs.Common.{◌≡◌, ◌≢◌, ℕ, ◌+◌, ◌-◌, ◌/◌, ◌^◌, ◌<◌, ◌≤◌, inl, inr, List, length, get_or, sym, ap, ◌∙◌, arith}
use Rattle.std.specs.Int.{bit_at}
use Rattle.std.proofs.Math.Nat.{div-eq_of_lt}
use Rattle.std.proofs.lemmas.Bool.{cases_eq}
use Rattle.std.proofs.lemmas.Nat.{pow_pos}
use Rattle.definitions.specs.AllOrders.{AreWidthsIn}
use Rattle.definitions.specs.Functions.{Function}
use Rattle.definitions.specs.Orders.{members}
use Rattle.definitions.specs.Widths.{width}
use Rattle.order_counts.specs.Sizes.{AreLimits}
use Rattle.order_counts.proofs.PassedOn.{IsPassedOn}
use Rattle.order_counts.proofs.Rows.{row_at}

pub record AreLimitsFrom (n : ℕ) (F : List Function) (limit k : ℕ) (limits : List ℕ) : Type 0 where
  pub each : length limits ≡ 2 ^ n
  pub last : get_or limits (2 ^ n - 1) 0 ≡ limit
  pub small : (mask : ℕ) → get_or limits mask 0 ≤ limit
  pub rise : (mask x : ℕ) → mask < 2 ^ n → 2 ^ n ≤ mask + k → x < n → bit_at mask x ≡ 1 →
      get_or limits mask 0 ≤ get_or limits (mask - 2 ^ x) 0 + width n F (members n (mask - 2 ^ x)) x

module _ (n : ℕ) (F : List Function) (limit : ℕ) where
  pub limits_from_last : (limits : List ℕ) → length limits ≡ 2 ^ n → get_or limits (2 ^ n - 1) 0 ≡ limit →
      ((mask : ℕ) → mask ≢ 2 ^ n - 1 → get_or limits mask 0 ≡ 0) → AreLimitsFrom n F limit 0 limits
  limits_from_last limits each last others = record {
    each = each;
    last = last;
    small = λ mask. elim (cases_eq mask (2 ^ n - 1)) [
      | inl e ↦ omega (arith, last, ap (λ k. get_or limits k 0) e)
      | inr ne ↦ omega (arith, others mask ne)
    ];
    rise = λ mask x lt le _ _. absurd (omega arith);
  }

  module _ (k : ℕ) (old new row : List ℕ) (few : n ≤ 16) (some : k + 1 < 2 ^ n) (h : AreLimitsFrom n F limit k old)
      (are : AreWidthsIn n F (2 ^ n - 1 - k) row) (long : length new ≡ length old) (passed : IsPassedOn old new row (2 ^ n - 1 - k) n) where
    pub limits_from_more : AreLimitsFrom n F limit (k + 1) new
    limits_from_more = record {
      each = long ∙ h.each;
      last = passed.above (2 ^ n - 1) (omega arith) ∙ h.last;
      small = passed.small limit h.small;
      rise = λ mask x lt le inside one. elim (cases_eq mask (2 ^ n - 1 - k)) [
        | inl e ↦
            let bit = ap (λ m. bit_at m x) (sym e) ∙ one in
            let width_is = row_at n F (2 ^ n - 1 - k) x row few are inside bit in
            omega (
              arith,
              passed.rise x inside bit,
              passed.above mask (omega (arith, e)),
              ap (λ m. get_or old m 0) e,
              ap (λ m. get_or new (m - 2 ^ x) 0) e,
              ap (λ m. width n F (members n (m - 2 ^ x)) x) e,
              width_is,
            )
        | inr ne ↦ omega (arith, h.rise mask x lt (omega (arith, ne)) inside one, passed.above mask (omega (arith, ne)), passed.more (mask - 2 ^ x))
      ];
    }

  pub limits_from_all : (k : ℕ) (limits : List ℕ) → k + 1 ≡ 2 ^ n → AreLimitsFrom n F limit k limits → AreLimits n F limit limits
  limits_from_all k limits all h = record {
    each = h.each;
    last = h.last;
    small = h.small;
    rise = λ mask x lt inside one. elim (cases_eq mask 0) [
      | inl e ↦ absurd (let none : bit_at 0 x ≡ 0 = bit_of_none x in let is = ap (λ m. bit_at m x) (sym e) ∙ one in omega arith)
      | inr ne ↦ h.rise mask x lt (omega (arith, ne)) inside one
    ];
  }
    where
      bit_of_none : (x : ℕ) → bit_at 0 x ≡ 0
      bit_of_none x = let q : 0 / 2 ^ x ≡ 0 = div-eq_of_lt (pow_pos x) in omega arith
