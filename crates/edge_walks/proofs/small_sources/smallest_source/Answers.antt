use Rattle.std.specs.Prelude.{◌≡◌, ◌≢◌, ℕ, suc, ◌-◌, ◌*◌, ◌%◌, ◌^◌, ◌<◌, ◌≤◌}
use Rattle.std.proofs.Common.{inl, inr, ap, ◌∙◌, arith}
use Rattle.std.specs.Int.Count.{count_leading_zeros}
use Rattle.std.proofs.Math.Pow.{pow_mono}
use Rattle.std.proofs.lemmas.Bool.{cases_lt}
use Rattle.std.proofs.lemmas.Nat.{leading_top, one_shl}
use Rattle.edge_walks.proofs.small_sources.smallest_source.Goals as goal

-- the highest bit of a mask
highest : (set : ℕ) → set ≢ 0 → set < 65536 →
    (j : ℕ) × (1 * 2 ^ (15 - count_leading_zeros 16 set) % 65536 ≡ 2 ^ j) × (2 ^ j ≤ set) × (set < 2 ^ suc j)
highest set some fits =
    let h = leading_top 16 set (omega arith) (omega arith) in
    (h.0, ap (λ k. 1 * 2 ^ k % 65536) (omega arith) ∙ one_shl h.0 16 (omega arith), h.2, h.3)

pub overflow_sub-result : goal.overflow_sub-result
overflow_sub-result c =
    let h = highest c.args.set c.if-set-eq0.false c.ranges.set.fits in
    omega arith

pub returns : goal.returns
returns c S x e =
    let h = highest c.args.set c.if-set-eq0.false c.ranges.set.fits in
    elim (cases_lt h.0 x) [
      | inl higher ↦ omega (arith, pow_mono {i = suc h.0} {j = x} (omega arith))
      | inr lower ↦ omega (arith, pow_mono {i = x} {j = h.0} (omega arith))
    ]
