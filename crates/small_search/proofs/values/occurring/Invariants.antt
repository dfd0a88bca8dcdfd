use Rattle.std.proofs.Common.{[], ◌∷◌, take}
use Rattle.small_search.specs.Counting.{AreOccurring}
use Rattle.small_search.proofs.values.occurring.Given as goal

abbrev pub invariant-loop-value : goal.invariant-loop-value
invariant-loop-value l = AreOccurring (take l.value-index l.values) (l.first ∷ 0 ∷ 0 ∷ 0 ∷ [])

abbrev pub invariant-loop-value-2 : goal.invariant-loop-value-2
invariant-loop-value-2 l = AreOccurring (take l.value-index l.values) l.found
