use Rattle.std.proofs.Common.{◌-◌, sym, ap, ◌∙◌, arith}
use Rattle.std.proofs.lemmas.Nat.Bits.{bit_at_ones, bit_at-zero, bit_at-lt, shr_and_one}
use Rattle.compaction.proofs.HighBytes.{place_low, place_high}
use Rattle.compaction.proofs.high_bytes.bits_without.Goals as goal

pub returns-then-y-lt6 : goal.returns-then-y-lt6
returns-then-y-lt6 c = λ b small.
    c.lower_half.ensures b small ∙ ap (λ z. 1 - z) (sym (place_low c.args.i b c.args.y small c.if-y-lt6.true))

pub returns-then-i-y-eq0 : goal.returns-then-i-y-eq0
returns-then-i-y-eq0 c = λ b small.
    let o = bit_at_ones 64 b small in
    let p = place_high c.args.i b c.args.y small (omega (arith, c.if-y-lt6.false)) in
    let s = shr_and_one c.args.i (c.args.y - 6) in
    let z = c.if-i-y-eq0.true in
    o ∙ omega arith

pub returns-else-i-y-eq0 : goal.returns-else-i-y-eq0
returns-else-i-y-eq0 c = λ b small.
    let o = bit_at-zero b in
    let p = place_high c.args.i b c.args.y small (omega (arith, c.if-y-lt6.false)) in
    let s = shr_and_one c.args.i (c.args.y - 6) in
    let l = bit_at-lt c.args.i (c.args.y - 6) in
    let z = c.if-i-y-eq0.false in
    o ∙ omega arith
