use Rattle.std.proofs.Common.{◌≡◌, ◌-◌, ◌^◌, drop, length, take}
use Rattle.truth_table.specs.Assignments.{assignments}
use Rattle.truth_table.proofs.level_classes.write_points.Given as goal

abbrev pub invariant-loop-i : goal.invariant-loop-i
invariant-loop-i l = record {
  long : length l.points ≡ 2 ^ length l.variables;
  size : l.size ≡ 2 ^ (length l.variables - l.i);
  done : take l.size l.points ≡ assignments (drop l.i l.variables);
}
