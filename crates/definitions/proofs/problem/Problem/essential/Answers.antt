use Rattle.std.proofs.Common.{◌≡◌, ℕ, arith, subst}
use Rattle.definitions.proofs.Bits.Problems.{MaskOfFirst, mask_none, mask_with_next, some_dependence, dependence_is, essential_is}
use Rattle.definitions.proofs.problem.Problem.essential.Goals as goal
use Rattle.definitions.proofs.problem.Problem.essential.Goals.{then-has_dependence, else-has_dependence}

pub loop-x-init : goal.loop-x-init
loop-x-init c = mask_none (some_dependence c.args.self.now)

pub loop-x-preserved : goal.loop-x-preserved
loop-x-preserved c = grind (arith, dependence_is, mask_with_next)

pub returns : goal.returns
returns c =
    let e : c.loop-x.x ≡ c.args.self.now.inputs = omega arith in
    essential_is c.args.self.now c.loop-x.mask (subst (λ (k : ℕ). MaskOfFirst (some_dependence c.args.self.now) k c.loop-x.mask) e c.loop-x.invariant)
