use Rattle.std.proofs.Common.{◌≡◌, ℕ, ◌-◌, ◌<◌, inl, inr, unwrap_or, IsTrue, get_or, refl, sym, ap, ◌∙◌, arith}
use Rattle.std.proofs.lemmas.Bool.{cases_lt}
use Rattle.std.proofs.lemmas.List.{length-set}
use Rattle.std.proofs.lemmas.Nat.Bits.{shr_and_one}
use Rattle.definitions.specs.Orders.{has, members}
use Rattle.definitions.proofs.Precedence.MaskLaws.{member_bit}
use Rattle.definitions.proofs.Precedence.Masks.{bit_inside}
use Rattle.subset_layers.specs.Costs.{cost_at, cost_without}
use Rattle.subset_layers.proofs.BlockLists.{has_masks}
use Rattle.subset_layers.proofs.CostLists.{member_from_bit, power_le_mask, shifted_bit, less_one}
use Rattle.subset_layers.proofs.Rows.{row_written}
use Rattle.subset_layers.proofs.costs.Costs.below.Goals as goal

pub overflow_sub-mask : goal.overflow_sub-mask
overflow_sub-mask c = omega (arith, power_le_mask c.args.mask c.in-Some.x (shr_and_one c.args.mask c.in-Some.x ∙ c.in-Some.ensures.member.2))

pub unwrap-cost-requires : goal.unwrap-cost-requires
unwrap-cost-requires c = grind (arith, shifted_bit, shr_and_one, member_from_bit, less_one, bit_inside, has_masks)

pub loop-x-preserved : goal.loop-x-preserved
loop-x-preserved c =
    let costs = c.args.self.now in
    let mask = c.args.mask in
    let x = c.in-Some.x in
    let below = c.loop-x.below in
    let S : ℕ → Type 0 = λ y. IsTrue (has (members costs.inputs mask) y) in
    let m = c.in-Some.ensures.member in
    let small = m.1 in
    let e = shifted_bit mask x c.ranges.mask.fits (shr_and_one mask x ∙ m.2) in
    let is : cost_without costs mask x ≡ c.unwrap-cost.result = ap (λ k. unwrap_or (cost_at costs (mask - k)) 0) (sym e)
    ∙ ap (λ o. unwrap_or o 0) (sym c.cost_of.ensures.value ∙ c.unwrap-cost.ensures) in
    let before : (y : ℕ) → y < x → S y → get_or below y 0 ≡ cost_without costs mask y = λ y lt s. elim (cases_lt y c.loop-x.from) [
      | inl l ↦ c.loop-x.invariant.found y l s
      | inr g ↦ absurd (let z = c.in-Some.ensures.first y g lt in let o = (member_bit costs.inputs mask y s).1 in omega arith)
    ] in
    record {
      small = omega arith;
      long = length-set below x c.unwrap-cost.result ∙ c.loop-x.invariant.long;
      found = row_written S (cost_without costs mask) below x before c.unwrap-cost.result (let l = c.loop-x.invariant.long in omega arith) (sym is);
    }

pub returns : goal.returns
returns c = λ x m. c.loop-x.invariant.found x (elim (cases_lt x c.loop-x.from) [
  | inl lt ↦ lt
  | inr le ↦ absurd (let z = c.in_default.ensures.none refl x le in let o = (member_bit c.args.self.now.inputs c.args.mask x m).1 in omega arith)
]) m
