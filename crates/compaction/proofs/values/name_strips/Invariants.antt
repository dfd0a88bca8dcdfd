use Rattle.std.proofs.Common.{◌≡◌, ◌*◌, ◌-◌, ◌^◌, ◌≤◌, length}
use Rattle.compaction.specs.NamedStrips.{NamesStrips}
use Rattle.subfunction_classes.specs.Values.{values_of}
use Rattle.compaction.proofs.values.name_strips.Given as goal

abbrev pub invariant-loop-output : goal.invariant-loop-output
invariant-loop-output l = record {
  long : length l.found.outer.items ≡ l.output * 2 ^ (l.problem.inputs - 8);
  room : length l.found.strips.keys ≤ l.output * 2 ^ (l.problem.inputs - 8);
  names : NamesStrips (values_of l.problem) l.found.outer.items l.found.strips.keys;
}
