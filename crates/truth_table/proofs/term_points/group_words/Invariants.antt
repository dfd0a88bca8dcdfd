use Rattle.std.proofs.Common.{take}
use Rattle.truth_table.specs.Terms.{AreGroupWords}
use Rattle.truth_table.proofs.term_points.group_words.Given as goal

abbrev pub invariant-loop-term : goal.invariant-loop-term
invariant-loop-term l = AreGroupWords (take l.term-index l.terms) l.group l.words
