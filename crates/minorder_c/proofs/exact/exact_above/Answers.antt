use Rattle.std.proofs.Common.{subst}
use Rattle.definitions.specs.KeptPairs.{KeptPairs}
use Rattle.minorder_c.specs.Answers.{IsFirstFewestOf}
use Rattle.minorder_c.proofs.exact.exact_above.Goals as goal

pub returns-clause-optimum : goal.returns-clause-optimum
returns-clause-optimum c =
    subst (λ (k : KeptPairs). IsFirstFewestOf c.args.given.now k.pairs c.optimum.new.order c.optimum.new.levels c.in_ok-total.total)
    c.in_ok-pairs.ensures.value c.in_ok-total.ensures.optimum

pub returns-clause-shape : goal.returns-clause-shape
returns-clause-shape c = c.has_call_shape.ensures.0 c.if-not-has_call_shape.false
