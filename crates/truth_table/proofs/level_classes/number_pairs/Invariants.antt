use Rattle.std.proofs.Common.{take}
use Rattle.truth_table.specs.Numberings.{pairs_of}
use Rattle.truth_table.proofs.PairNumbers.{Merging}
use Rattle.truth_table.proofs.level_classes.number_pairs.Given as goal

abbrev pub invariant-loop-j : goal.invariant-loop-j
invariant-loop-j l = Merging l.seen.keys (take l.j (pairs_of l.classes)) l.numbers.items l.unequal
