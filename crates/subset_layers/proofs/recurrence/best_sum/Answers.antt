use Rattle.std.proofs.Common.{ℕ, ◌+◌, ◌<◌, Option, Some, None, IfSome, IsNone, IsTrue, inl, inr, slice_index, refl, sym, ◌∙◌, subst, arith}
use Rattle.std.proofs.lemmas.Bool.{cases_lt, true≢false}
use Rattle.std.proofs.lemmas.Nat.Bits.{shr_and_one}
use Rattle.definitions.proofs.Precedence.MaskLaws.{member_bit}
use Rattle.definitions.proofs.Precedence.Masks.{bit_inside}
use Rattle.definitions.specs.Orders.{has, members}
use Rattle.subset_layers.specs.declared.recurrence.Sum.{Sum}
use Rattle.subset_layers.specs.Sums.{IsBest}
use Rattle.subset_layers.proofs.CostLists.{member_from_bit}
use Rattle.subset_layers.proofs.BestSums.{IsBestBelow, best_gap, best_skipped, best_taken, best_all}
use Rattle.subset_layers.proofs.recurrence.best_sum.Goals as goal
use Rattle.subset_layers.proofs.recurrence.best_sum.Goals.{then-cost-bound, else-cost-bound}

pub loop-x-preserved : goal.loop-x-preserved
loop-x-preserved c =
    let n = c.args.inputs in
    let x = c.in-Some.x in
    let S : ℕ → Type 0 = λ y. IsTrue (has (members n c.args.mask) y) in
    let costs : ℕ → ℕ = slice_index c.args.below.now in
    let widths : ℕ → ℕ = slice_index c.args.widths.now in
    let m = c.in-Some.ensures.member in
    let inside = bit_inside n c.args.mask x c.requires.within m.2 in
    let before = best_gap S c.args.bound costs widths c.loop-x.from x c.loop-x.best m.0
    (λ y h lt s. absurd (let z = c.in-Some.ensures.first y h lt in let o = (member_bit n c.args.mask y s).1 in omega arith))
    c.loop-x.invariant.best in
    record {
      small = (let l = m.1 in omega arith);
      best = elim c.if-cost-bound.branch [
        | then-cost-bound w ↦
            subst (λ o. IsBestBelow S c.args.bound costs widths (x + 1) o) (sym w.best-is)
            (best_taken S c.args.bound costs widths x (costs x + widths x) c.loop-x.best _ w.smaller.result before
            (member_from_bit n c.args.mask x inside (shr_and_one c.args.mask x ∙ m.2)) (omega arith) refl refl w.smaller.ensures.none w.smaller.ensures.some)
        | else-cost-bound w ↦
            let over : c.args.bound < costs x = omega arith in
            subst (λ o. IsBestBelow S c.args.bound costs widths (x + 1) o) (sym w.best-is)
            (best_skipped S c.args.bound costs widths x c.loop-x.best before (λ s. over))
      ];
    }

-- the sum over all members
whole : (S : ℕ → Type 0) (bound : ℕ) (costs widths : ℕ → ℕ) (k : ℕ) (o : Option Sum) → ((y : ℕ) → S y → y < k) → IsBestBelow S bound costs widths k o →
    IfSome o (λ s. IsBest S bound costs widths s.sum s.variable) × (IsNone o → (y : ℕ) → S y → bound < costs y)
whole S bound costs widths k None low h = (tt, λ z y m. h y (low y m) m)
whole S bound costs widths k (Some s) low h = (best_all S bound costs widths k s low h, λ z. absurd (true≢false z))

-- all members were met
all_met : (c : goal.In_default) (y : ℕ) → IsTrue (has (members c.args.inputs c.args.mask) y) → y < c.loop-x.from
all_met c y s = elim (cases_lt y c.loop-x.from) [
  | inl lt ↦ lt
  | inr le ↦ absurd (let z = c.in_default.ensures.none refl y le in let o = (member_bit c.args.inputs c.args.mask y s).1 in omega arith)
]

pub returns-clause-best : goal.returns-clause-best
returns-clause-best c =
    (whole (λ y. IsTrue (has (members c.args.inputs c.args.mask) y)) c.args.bound (slice_index c.args.below.now) (slice_index c.args.widths.now) c.loop-x.from
    c.loop-x.best (all_met c) c.loop-x.invariant.best).0

pub returns-clause-none : goal.returns-clause-none
returns-clause-none c =
    (whole (λ y. IsTrue (has (members c.args.inputs c.args.mask) y)) c.args.bound (slice_index c.args.below.now) (slice_index c.args.widths.now) c.loop-x.from
    c.loop-x.best (all_met c) c.loop-x.invariant.best).1
