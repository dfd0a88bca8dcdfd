use Rattle.std.proofs.Common.{◌≡◌, ◌≢◌, ℕ, ◌+◌, ◌-◌, ◌/◌, ◌%◌, ◌^◌, ◌<◌, ◌≤◌, inl, inr, sym, ap, ◌∙◌, subst, arith, w32}
use Rattle.std.specs.Int.{bit_at, trailing_zeros}
use Rattle.std.proofs.Math.Nat.{div-div-eq-div-mul, div-le_self}
use Rattle.std.proofs.lemmas.Bool.{cases_lt}
use Rattle.std.proofs.lemmas.Nat.{pow-add}
use Rattle.std.proofs.lemmas.Nat.Bits.{bit_at-trailing_zeros, bit_at_above, bit_at-zero}
use Rattle.definitions.proofs.variables.next_member.Goals as goal

-- the bits from a place on
bits_from : (set from y : ℕ) → from ≤ y → bit_at (set / 2 ^ from) (y - from) ≡ bit_at set y
bits_from set from y h =
    ap (λ k. k % 2) (div-div-eq-div-mul set (2 ^ from) (2 ^ (y - from))
    ∙ ap (λ k. set / k) (sym (pow-add 2 from (y - from)) ∙ ap (λ k. 2 ^ k) (let e : from + (y - from) ≡ y = omega arith in e)))

module _ (set from : ℕ) (small : set < 2 ^ 16) (some : 0 < set / 2 ^ from) (fits : set / 2 ^ from < 2 ^ 32) where
  here : bit_at set (from + trailing_zeros w32 (set / 2 ^ from)) ≡ 1
  here =
      sym (bits_from set from (from + trailing_zeros w32 (set / 2 ^ from)) (omega arith))
      ∙ ap (bit_at (set / 2 ^ from)) (let e : from + trailing_zeros w32 (set / 2 ^ from) - from ≡ trailing_zeros w32 (set / 2 ^ from) = omega arith in e)
      ∙ (bit_at-trailing_zeros w32 (set / 2 ^ from) some fits).1

  below : from + trailing_zeros w32 (set / 2 ^ from) < 16
  below = elim (cases_lt (from + trailing_zeros w32 (set / 2 ^ from)) 16) [
    | inl lt ↦ lt
    | inr le ↦ absurd (omega (arith, here, bit_at_above set 16 (from + trailing_zeros w32 (set / 2 ^ from)) small le))
  ]

  first : (y : ℕ) → from ≤ y → y < from + trailing_zeros w32 (set / 2 ^ from) → bit_at set y ≡ 0
  first y h lt =
      sym (bits_from set from y h) ∙ (bit_at-trailing_zeros w32 (set / 2 ^ from) some fits).2 (y - from) (omega arith)

-- a member is left, and what is shifted fits
some_left : (c : goal.Else-rest-eq0) → 0 < c.args.set / 2 ^ c.args.from
some_left c =
    let n : c.args.set / 2 ^ c.args.from ≢ 0 = λ e. c.if-rest-eq0.false (ap (λ k. k / 2 ^ c.args.from) c.from.ensures ∙ e) in
    omega arith

left_fits : (c : goal.Else-rest-eq0) → c.args.set / 2 ^ c.args.from < 2 ^ 32
left_fits c = omega (arith, div-le_self c.args.set (2 ^ c.args.from), c.ranges.set.fits)

pub returns-then-rest-eq0-clause-none : goal.returns-then-rest-eq0-clause-none
returns-then-rest-eq0-clause-none c = λ none y h.
    sym (bits_from c.args.set c.args.from y h)
    ∙ ap (λ k. bit_at k (y - c.args.from)) (ap (λ k. k / 2 ^ c.args.from) (sym c.from.ensures) ∙ c.if-rest-eq0.true) ∙ bit_at-zero (y - c.args.from)

pub returns-else-rest-eq0-clause-member : goal.returns-else-rest-eq0-clause-member
returns-else-rest-eq0-clause-member c =
    let e = c.from.ensures in
    subst (λ k. (c.args.from ≤ c.args.from + trailing_zeros w32 (k / 2 ^ c.args.from)) × (c.args.from + trailing_zeros w32 (k / 2 ^ c.args.from) < 16)
    × (bit_at c.args.set (c.args.from + trailing_zeros w32 (k / 2 ^ c.args.from)) ≡ 1)) (sym e) (
      omega arith,
      below c.args.set c.args.from c.ranges.set.fits (some_left c) (left_fits c),
      here c.args.set c.args.from c.ranges.set.fits (some_left c) (left_fits c),
    )

pub returns-else-rest-eq0-clause-first : goal.returns-else-rest-eq0-clause-first
returns-else-rest-eq0-clause-first c =
    subst (λ k. (y : ℕ) → c.args.from ≤ y → y < c.args.from + trailing_zeros w32 (k / 2 ^ c.args.from) → bit_at c.args.set y ≡ 0) (sym c.from.ensures)
    (first c.args.set c.args.from c.ranges.set.fits (some_left c) (left_fits c))
