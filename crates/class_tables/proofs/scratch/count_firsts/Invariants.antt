use Rattle.std.proofs.Common.{◌^◌}
use Rattle.subfunction_classes.specs.Places as places
use Rattle.class_tables.proofs.CountedFirsts.{Counting}
use Rattle.class_tables.proofs.scratch.count_firsts.Given as goal

abbrev pub invariant-loop-j : goal.invariant-loop-j
invariant-loop-j l = Counting (places.pairs l.pairs.entries.numbers (2 ^ l.pairs.entries.rank)) l.pairs.masks.now l.pairs.x l.count l.j
