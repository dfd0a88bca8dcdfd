use Rattle.std.proofs.Common.{◌≡◌, ◌%◌, ◌^◌}
use Rattle.subfunction_classes.specs.Table.{classes_of}
use Rattle.class_tables.proofs.classes.Classes.of_set.Given as goal

abbrev pub invariant-loop-y : goal.invariant-loop-y
invariant-loop-y l = l.classes ≡ classes_of l.problem (l.mask % 2 ^ l.y)
