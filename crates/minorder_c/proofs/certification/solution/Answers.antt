use Rattle.std.proofs.Common.{subst}
use Rattle.solutions.specs.Solutions.{IsSolution}
use Rattle.minorder_c.proofs.certification.solution.Goals as goal

pub returns : goal.returns
returns c =
    subst (λ z. z) (λ i. IsSolution (c.problem-2.ensures i) (c.in_ok-bound.ensures.pairs i) c.in_ok-solution-2.solution) c.in_ok-solution-2.ensures

pub returns-then-is_small : goal.returns-then-is_small
returns-then-is_small c =
    subst (λ z. z) (λ i. IsSolution (c.problem-then-is_small.ensures i) c.args.pairs.pairs c.in_ok-solution.solution) c.in_ok-solution.ensures
