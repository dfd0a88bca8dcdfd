use Rattle.std.proofs.Common.{◌≡◌, map, replicate}
use Rattle.layer_core.specs.Machine.{unmarked}
use Rattle.layer_core.specs.Marked.{marks_of}
use Rattle.layer_core.proofs.machine.blank_marks.Given as goal

abbrev pub invariant-loop-worker : goal.invariant-loop-worker
invariant-loop-worker l = map marks_of l.marks.items ≡ replicate l.worker (unmarked l.blocks l.masks)
