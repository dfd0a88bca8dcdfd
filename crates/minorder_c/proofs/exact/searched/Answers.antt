use Rattle.std.proofs.Common.{rules}
use Rattle.minorder_c.specs.Answers.{tables_in}
use Rattle.minorder_c.proofs.Counts.{optimum_lengths}
use Rattle.minorder_c.proofs.exact.searched.Goals as goal

pub returns-clause-optimum : goal.returns-clause-optimum
returns-clause-optimum c = search rules

pub returns-clause-long : goal.returns-clause-long
returns-clause-long c =
    optimum_lengths (tables_in c.args.given.now) c.args.pairs.pairs c.find_optimum_alone.result (returns-clause-optimum c)
