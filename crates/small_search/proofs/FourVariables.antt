-- The members of a set, taken off one after the other from the lowest.
--     lowest_taken      the lowest one of some that are left
use Rattle.std.proofs.Common.{◌≡◌, ℕ, ◌+◌, ◌-◌, ◌^◌, ◌<◌, inl, inr, ◌∷◌, length, ap, ◌∙◌, arith, w16}
use Rattle.std.specs.Int.{trailing_zeros}
use Rattle.std.proofs.lemmas.Bool.{cases_eq, cases_lt}
use Rattle.std.proofs.lemmas.Nat.Bits.{bit_at_above}
use Rattle.definitions.specs.Orders.{members}
use Rattle.definitions.proofs.Widths.Cells.{members_zero}
use Rattle.small_search.proofs.LowestVariables.{lowest, parent_back}
use Rattle.small_search.proofs.ValueSteps.{members_lowest}

pub record IsTaken (rest : ℕ) : Type 0 where
  pub small : trailing_zeros w16 rest < 16
  pub back : (rest - 2 ^ trailing_zeros w16 rest) + 2 ^ trailing_zeros w16 rest ≡ rest
  pub members_are : members 16 rest ≡ trailing_zeros w16 rest ∷ members 16 (rest - 2 ^ trailing_zeros w16 rest)

pub lowest_taken : (rest : ℕ) → rest < 65536 → 0 < length (members 16 rest) → IsTaken rest
lowest_taken rest small some =
    let x = trailing_zeros w16 rest in
    let low = lowest rest (elim (cases_eq rest 0) [
      | inl e ↦ absurd
          (let m = ap (λ r. length (members 16 r)) e ∙ ap length (members_zero 16) in omega (arith, m, some))
      | inr ne ↦ omega (arith, ne)
    ]) small in
    let inside : x < 16 = elim (cases_lt x 16) [ inl l ↦ l | inr g ↦ absurd (omega (arith, bit_at_above rest 16 x small g, low.bit)) ] in
    record { small = inside; back = parent_back rest x low; members_are = members_lowest 16 rest x low inside }
