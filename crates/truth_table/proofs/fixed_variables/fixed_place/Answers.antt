use Rattle.std.proofs.Common.{◌+◌, ◌-◌, ◌^◌, ◌/◌, ◌∙◌, ap, sym, bit_and}
use Rattle.std.proofs.lemmas.Nat.Bits.{shr_and_one}
use Rattle.truth_table.specs.Fixing.{fixed_bit}
use Rattle.truth_table.proofs.FixedBits.{raised_step, lowered_step}
use Rattle.truth_table.proofs.fixed_variables.fixed_place.Goals as goal

pub returns-then-upper : goal.returns-then-upper
returns-then-upper c =
    let s = raised_step c.args.i c.args.r (bit_and (c.args.i / 2 ^ c.args.r) 1) c.requires.small c.requires.place (shr_and_one c.args.i c.args.r) in
    ap (λ z. c.args.i + z) s.1 ∙ sym (ap (λ b. fixed_bit c.args.r b c.args.i) c.if-upper.true)

pub returns-else-upper : goal.returns-else-upper
returns-else-upper c =
    let s = lowered_step c.args.i c.args.r (bit_and (c.args.i / 2 ^ c.args.r) 1) c.requires.small c.requires.place (shr_and_one c.args.i c.args.r) in
    ap (λ z. c.args.i - z) s.0 ∙ sym (ap (λ b. fixed_bit c.args.r b c.args.i) c.if-upper.false)
