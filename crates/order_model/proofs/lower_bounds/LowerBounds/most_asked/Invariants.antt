use Rattle.std.proofs.Common.{◌≡◌, ◌-◌, ◌^◌, ◌<◌, ◌≤◌, map, max}
use Rattle.std.specs.List.{fold}
use Rattle.definitions.specs.Orders.{members}
use Rattle.definitions.specs.Problems.{functions}
use Rattle.definitions.specs.LowerBounds.{asked_by, AreMembersWidths}
use Rattle.order_model.proofs.lower_bounds.LowerBounds.most_asked.Given as goal

abbrev pub invariant-loop-x : goal.invariant-loop-x
invariant-loop-x l = record {
  small : l.from ≤ 16;
  inside : l.from ≤ l.self.problem.inputs;
  few : l.most < 2 ^ 33;
  most : AreMembersWidths l.self.problem l.mask l.widths →
      l.most ≡ fold max l.least
      (map (asked_by l.self.problem.inputs (functions l.self.problem) (members l.self.problem.inputs l.mask)) (members l.from l.mask));
}

abbrev pub decreases-loop-x : goal.decreases-loop-x
decreases-loop-x l = 16 - l.from
