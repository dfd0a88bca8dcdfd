use Rattle.std.proofs.Common.{◌≡◌, ◌+◌, ◌-◌, subst, arith}
use Rattle.std.specs.List.{All}
use Rattle.edge_walks.specs.Blocks.{StandsAt}
use Rattle.edge_walks.proofs.WalkTables.{stands_below}
use Rattle.edge_walks.proofs.top_tables.top_tables.Goals as goal

pub invariant_of-above : goal.invariant_of-above
invariant_of-above c =
    record { stands = stands_below c.args.root.edges.problem.now (c.loop-x.x - 1 + 1) c.args.root.free c.args.root.table.now (omega arith) c.args.root.stands }

pub add_variable-requires-clause-tops : goal.add_variable-requires-clause-tops
add_variable-requires-clause-tops c = grind arith

pub returns : goal.returns
returns c =
    let last : c.loop-x.x ≡ c.args.y = omega arith in
    subst (λ x. All (StandsAt c.args.root.edges.problem.now x) c.loop-x.tops.items) last c.loop-x.invariant.each

pub loop-x-preserved : goal.loop-x-preserved
loop-x-preserved c =
    let same : c.loop-x.x - 1 + 1 - 1 ≡ c.loop-x.x - 1 = omega arith in
    record {
      low = omega arith;
      each = subst (λ x. All (StandsAt c.args.root.edges.problem.now x) c.add_variable.new.tops.items) same c.in_ok-add_variable.ensures;
    }
