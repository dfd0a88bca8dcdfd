use Rattle.std.proofs.Common.{◌≡◌, ◌*◌, ◌%◌, ◌^◌, ◌≤◌, ℕ, get_or, ◌∙◌, arith}
use Rattle.std.proofs.lemmas.Bool.{false≢true}
use Rattle.std.proofs.lemmas.Nat.{one_shl}
use Rattle.definitions.proofs.Precedence.Masks.{bit_inside, row_small, some_bit, within_16}
use Rattle.order_model.proofs.pairs.are_within.Goals as goal
use Rattle.order_model.proofs.pairs.are_within.Goals.{then-a-n, else-a-n}

limit_is : (n : ℕ) → n ≤ 16 → (1 * 2 ^ n) % 2 ^ 32 ≡ 2 ^ n
limit_is n h = one_shl n 32 (omega arith)

pub loop-a-init : goal.loop-a-init
loop-a-init c a b h = absurd (omega arith)

pub loop-a-preserved : goal.loop-a-preserved
loop-a-preserved c a b h bit = grind (arith, bit_inside)

pub returns : goal.returns
returns c = grind (arith, within_16)

pub returns-then-from-limit : goal.returns-then-from-limit
returns-then-from-limit c = (
  λ t. absurd (false≢true t),
  λ w.
      let m = get_or c.args.below.now c.loop-a.a 0 in
      let small = row_small c.args.n c.args.below.now w c.loop-a.a in
      absurd (elim c.if-a-n.branch [
        | then-a-n q ↦ let no : ⊥ = omega (arith, q.limit-is ∙ limit_is c.args.n c.requires) in no
        | else-a-n q ↦
            let s = some_bit m (c.fits-below c.loop-a.a) (λ z. absurd (omega arith)) in
            grind arith
      ]),
)
