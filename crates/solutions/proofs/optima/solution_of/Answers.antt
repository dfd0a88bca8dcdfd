use Rattle.std.proofs.Common.{◌∙◌}
use Rattle.solutions.proofs.FoundOrders.{cells_listed}
use Rattle.solutions.proofs.optima.solution_of.Goals as goal

pub returns : goal.returns
returns c =
    let t = c.args.cells.now in
    let o = c.in_ok-optimum.optimum in
    let is = c.in_ok-optimum.ensures.optimum in
    record { optimum = is; cells = c.in_ok-listed.ensures ∙ cells_listed t o.order o.total is.size }
