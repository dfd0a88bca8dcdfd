use Rattle.std.proofs.Common.{◌≡◌, ◌-◌, refl, sym, ap, ◌∙◌, arith}
use Rattle.std.specs.Int.{bit_at}
use Rattle.definitions.proofs.Bits.Words.{tested_below}
use Rattle.definitions.proofs.packed.lower_half.Goals as goal

pub returns-in-0 : goal.returns-in-0
returns-in-0 c = λ b h. tested_below 64 (bit_at 6148914691236517205) (λ k. 1 - bit_at k 0) refl b h ∙ ap (λ x. 1 - bit_at b x) (sym c.in-0.is)

pub returns-in-1 : goal.returns-in-1
returns-in-1 c = λ b h. tested_below 64 (bit_at 3689348814741910323) (λ k. 1 - bit_at k 1) refl b h ∙ ap (λ x. 1 - bit_at b x) (sym c.in-1.is)

pub returns-in-2 : goal.returns-in-2
returns-in-2 c = λ b h. tested_below 64 (bit_at 1085102592571150095) (λ k. 1 - bit_at k 2) refl b h ∙ ap (λ x. 1 - bit_at b x) (sym c.in-2.is)

pub returns-in-3 : goal.returns-in-3
returns-in-3 c = λ b h. tested_below 64 (bit_at 71777214294589695) (λ k. 1 - bit_at k 3) refl b h ∙ ap (λ x. 1 - bit_at b x) (sym c.in-3.is)

pub returns-in-4 : goal.returns-in-4
returns-in-4 c = λ b h. tested_below 64 (bit_at 281470681808895) (λ k. 1 - bit_at k 4) refl b h ∙ ap (λ x. 1 - bit_at b x) (sym c.in-4.is)

pub returns-in_default : goal.returns-in_default
returns-in_default c =
    let five : 5 ≡ c.args.x = omega arith in
    λ b h. tested_below 64 (bit_at 4294967295) (λ k. 1 - bit_at k 5) refl b h ∙ ap (λ x. 1 - bit_at b x) five
