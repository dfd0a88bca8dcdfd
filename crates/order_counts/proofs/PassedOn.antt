-- Limits passed on from a set to the sets with one member less.
--     IsPassedOn old new row set x      from a set to those without one of its members below x
--     passed_on      with one member more
use Rattle.std.proofs.Common.{◌≡◌, ◌≢◌, ℕ, ◌+◌, ◌-◌, ◌^◌, ◌<◌, ◌≤◌, inl, inr, List, length, get_or, slice_index, set, max, sym, ap, ◌∙◌, arith}
use Rattle.std.specs.Int.{bit_at}
use Rattle.std.proofs.lemmas.Bool.{cases_eq}
use Rattle.std.proofs.lemmas.List.{get_or-set_same, get_or-set_other}
use Rattle.std.proofs.lemmas.Nat.{pow_pos}
use Rattle.order_counts.proofs.Sums.{power_le}

-- the limits before and after, with those for the members below x passed on
pub record IsPassedOn (old new row : List ℕ) (mask x : ℕ) : Type 0 where
  pub rise : (y : ℕ) → y < x → bit_at mask y ≡ 1 → get_or old mask 0 ≤ get_or new (mask - 2 ^ y) 0 + slice_index row y
  pub more : (m : ℕ) → get_or old m 0 ≤ get_or new m 0
  pub above : (m : ℕ) → mask ≤ m → get_or new m 0 ≡ get_or old m 0
  pub small : (limit : ℕ) → ((m : ℕ) → get_or old m 0 ≤ limit) → (m : ℕ) → get_or new m 0 ≤ limit

module _ (old new row : List ℕ) (mask x : ℕ) (h : IsPassedOn old new row mask x) where
  pub passed_by : bit_at mask x ≢ 1 → IsPassedOn old new row mask (x + 1)
  passed_by ne = record {
    rise = λ y lt one. elim (cases_eq y x) [
      | inl e ↦ absurd (ne (ap (bit_at mask) (sym e) ∙ one))
      | inr other ↦ h.rise y (omega (arith, other)) one
    ];
    more = h.more;
    above = h.above;
    small = h.small;
  }

  module _ (one : bit_at mask x ≡ 1) (inside : mask < length new) (v : ℕ)
      (is : v ≡ max (get_or new (mask - 2 ^ x) 0) (get_or old mask 0 - slice_index row x)) where
    lower : mask - 2 ^ x < mask
    lower = omega (arith, power_le mask x one, pow_pos x)

    changed : get_or (set new (mask - 2 ^ x) v) (mask - 2 ^ x) 0 ≡ v
    changed = get_or-set_same new (mask - 2 ^ x) v 0 (omega (arith, lower))

    grown : (m : ℕ) → get_or new m 0 ≤ get_or (set new (mask - 2 ^ x) v) m 0
    grown m = elim (cases_eq m (mask - 2 ^ x)) [
      | inl e ↦ omega (arith, is, changed, ap (λ k. get_or (set new (mask - 2 ^ x) v) k 0) e, ap (λ k. get_or new k 0) e)
      | inr ne ↦ omega (arith, get_or-set_other new (mask - 2 ^ x) m v 0 ne)
    ]

    pub passed_on : IsPassedOn old (set new (mask - 2 ^ x) v) row mask (x + 1)
    passed_on = record {
      rise = λ y lt bit. elim (cases_eq y x) [
        | inl e ↦
            omega (
              arith,
              is,
              changed,
              ap (λ k. get_or (set new (mask - 2 ^ x) v) (mask - 2 ^ k) 0) e,
              ap (λ k. slice_index row k) e,
            )
        | inr ne ↦ omega (arith, h.rise y (omega (arith, ne)) bit, grown (mask - 2 ^ y))
      ];
      more = λ m. omega (arith, h.more m, grown m);
      above = λ m le. get_or-set_other new (mask - 2 ^ x) m v 0 (λ e. absurd (omega (arith, e, lower))) ∙ h.above m le;
      small = λ limit all m. elim (cases_eq m (mask - 2 ^ x)) [
        | inl e ↦
            omega (arith, is, changed, h.small limit all (mask - 2 ^ x), all mask, ap (λ k. get_or (set new (mask - 2 ^ x) v) k 0) e)
        | inr ne ↦ omega (arith, get_or-set_other new (mask - 2 ^ x) m v 0 ne, h.small limit all m)
      ];
    }
