use Rattle.std.proofs.Common.{◌≡◌, ◌+◌, ◌-◌, ◌^◌, ◌<◌, ◌≤◌, ℕ, ap, arith, length, pow_mono}
use Rattle.std.proofs.lemmas.Grind.{pow_more}
use Rattle.symmetries.proofs.marks.Marks.of.Goals as goal

-- a half and another are within the points
halves : (x n : ℕ) → 0 < x → x ≤ n → 2 ^ (x - 1) + 2 ^ (x - 1) ≤ 2 ^ n
halves x n some inside =
    let p = pow_more 2 (x - 1) in
    let whole : x - 1 + 1 ≡ x = omega arith in
    omega (arith, ap (λ k. 2 ^ k) whole, pow_mono inside)

pub copy_upper-requires-clause-sums : goal.copy_upper-requires-clause-sums
copy_upper-requires-clause-sums c =
    let x = c.loop-x.x in
    let inside = c.loop-x.auto.x in
    omega (arith, ap length c.deref.ensures.value, c.loop-x.invariant.0, halves x c.args.inputs c.loop-x-test.true inside, pow_mono inside)

pub copy_upper-requires-clause-room : goal.copy_upper-requires-clause-room
copy_upper-requires-clause-room c =
    let x = c.loop-x.x in
    let inside = c.loop-x.auto.x in
    omega (arith, ap length c.deref_mut.ensures.value, c.loop-x.invariant.1, halves x c.args.inputs c.loop-x-test.true inside)

pub fold_upper-requires : goal.fold_upper-requires
fold_upper-requires c =
    let x = c.loop-x.x in
    let inside = c.loop-x.auto.x in
    omega (arith, ap length c.deref_mut-in-loop-x.ensures.value, c.loop-x.invariant.0, halves x c.args.inputs c.loop-x-test.true inside)

pub marks_below-requires-clause-sums : goal.marks_below-requires-clause-sums
marks_below-requires-clause-sums c =
    let x = c.loop-x.x in
    let inside = c.loop-x.auto.x in
    omega (
      arith,
      ap length c.deref_mut-in-loop-x-2.ensures.value,
      c.copy_upper.ensures,
      ap length c.deref_mut.ensures.value,
      c.loop-x.invariant.1,
      halves x c.args.inputs c.loop-x-test.true inside,
    )
