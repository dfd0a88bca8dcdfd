use Rattle.std.proofs.Common.{◌≡◌, ◌+◌, ◌-◌, ◌^◌, ap, arith, pow_mono}
use Rattle.std.proofs.lemmas.Grind.{pow_more}
use Rattle.symmetries.proofs.marks.marks_below.Goals as goal

pub fold_upper-requires : goal.fold_upper-requires
fold_upper-requires c =
    let inside = c.loop-y.auto.y in
    let p = pow_more 2 (c.loop-y.y - 1) in
    let whole : c.loop-y.y - 1 + 1 ≡ c.loop-y.y = omega arith in
    omega (arith, ap (λ k. 2 ^ k) whole, pow_mono inside)
