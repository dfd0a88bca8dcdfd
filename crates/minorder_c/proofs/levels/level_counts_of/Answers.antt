use Rattle.std.proofs.Common.{length, rules, ap, sym, ◌∙◌}
use Rattle.minorder_c.specs.Answers.{functions_in}
use Rattle.minorder_c.proofs.Counts.{counts_long}
use Rattle.minorder_c.proofs.levels.level_counts_of.Goals as goal

pub returns-clause-levels : goal.returns-clause-levels
returns-clause-levels c = search rules

pub returns-clause-counts : goal.returns-clause-counts
returns-clause-counts c =
    let s = c.in_ok-arguments.ensures.shape in
    ap length (returns-clause-levels c)
    ∙ counts_long c.args.given.now.inputs (functions_in c.args.given.now) c.args.order.now ∙ s.places_are
    ∙ sym s.counts_are
