use Rattle.std.proofs.Common.{arith}
use Rattle.std.proofs.lemmas.List.{nil_from_length}
use Rattle.symmetries.proofs.FirstSorted.{harmless_same, harmless_symmetric}
use Rattle.symmetries.proofs.pairs.pairs_to_keep.Goals as goal

pub returns-then-count-gt0-clause-harmless : goal.returns-then-count-gt0-clause-harmless
returns-then-count-gt0-clause-harmless c = grind (arith, harmless_same)

pub returns-clause-harmless : goal.returns-clause-harmless
returns-clause-harmless c = grind (arith, nil_from_length, harmless_symmetric)
