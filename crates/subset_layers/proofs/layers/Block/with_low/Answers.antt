use Rattle.std.proofs.Common.{◌≡◌, ◌≤◌, ℕ, ◌+◌, ◌*◌, ◌-◌, ◌/◌, ◌%◌, ◌^◌, arith, sym, ap, ◌∙◌}
use Rattle.std.proofs.lemmas.List.{length-set}
use Rattle.definitions.proofs.Bits.Ones.{ones-members}
use Rattle.subset_layers.proofs.BlockLists.{block_masks_are, mask_small, high_mask, high_no_mask}
use Rattle.subset_layers.proofs.layers.Block.with_low.Goals as goal
use Rattle.subset_layers.proofs.layers.Block.with_low.Goals.{then-mask-size, else-mask-size}
use Rattle.definitions.proofs.Bits.Masks.{power_small}

-- the end of the loop
highs_are : (n : ℕ) → n ≤ 16 → (1 * 2 ^ n % 18446744073709551616 + 256 - 1) / 256 ≡ (2 ^ n + 255) / 256
highs_are n h = ap (λ k. k / 256) (let t : 1 * 2 ^ n % 18446744073709551616 + 256 - 1 ≡ 2 ^ n + 255 = omega (arith, power_small n h) in t)

pub loop-high-preserved : goal.loop-high-preserved
loop-high-preserved c =
    let e = highs_are c.args.inputs c.requires.inputs in
    let p = power_small c.args.inputs c.requires.inputs in
    let small = mask_small c.args.inputs c.args.low c.loop-high.high c.requires.low c.requires.below (omega arith) in
    let ones = ones-members c.args.inputs (c.loop-high.high * 256 + c.args.low) small in
    elim c.if-mask-size.branch [
      | then-mask-size w ↦
          rw (w.masks-is, w.count-is) (
            high_mask c.args.inputs c.args.size c.args.low c.loop-high.high c.loop-high.count c.loop-high.masks c.loop-high.invariant.1
                (omega arith) (sym ones ∙ w.if-mask-size.true) c.loop-high.invariant.0,
            length-set c.loop-high.masks c.loop-high.count (c.loop-high.high * 256 + c.args.low) ∙ c.loop-high.invariant.1,
          )
      | else-mask-size w ↦
          rw (w.masks-is, w.count-is) (
            high_no_mask c.args.inputs c.args.size c.args.low c.loop-high.high c.loop-high.count c.loop-high.masks
                (λ e. w.if-mask-size.false (ones ∙ e)) c.loop-high.invariant.0,
            c.loop-high.invariant.1,
          )
    ]

pub invariant_of-result : goal.invariant_of-result
invariant_of-result c = grind (arith, power_small, block_masks_are)
