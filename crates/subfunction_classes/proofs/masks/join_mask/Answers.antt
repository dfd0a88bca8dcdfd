use Rattle.std.proofs.Common.{◌^◌, get_or, cond, bit_or, sym, ap, ◌∙◌, eq-eqb}
use Rattle.std.specs.Int.Bits.{or_zero_r}
use Rattle.subfunction_classes.proofs.masks.join_mask.Goals as goal

pub returns-then-lower-upper : goal.returns-then-lower-upper
returns-then-lower-upper c =
    sym (or_zero_r (bit_or (get_or c.args.masks.now c.args.pair.0 0) (get_or c.args.masks.now c.args.pair.1 0)))
    ∙ ap (λ b. bit_or (bit_or (get_or c.args.masks.now c.args.pair.0 0) (get_or c.args.masks.now c.args.pair.1 0))
    (cond b 0 (2 ^ c.args.x)))
    (sym (eq-eqb c.args.pair.0 c.args.pair.1 c.if-lower-upper.true))
