use Rattle.std.proofs.Common.{List, subst}
use Rattle.definitions.specs.Pairs.{Pair}
use Rattle.minorder_c.specs.Answers.{IsFirstFewestOf}
use Rattle.minorder_c.proofs.exact.exact.Goals as goal

pub returns-clause-optimum : goal.returns-clause-optimum
returns-clause-optimum c =
    subst (λ (P : List Pair). IsFirstFewestOf c.args.given.now P c.optimum.new.order c.optimum.new.levels c.in_ok-total.total) c.none-pairs.ensures.pairs
    c.in_ok-total.ensures.optimum
