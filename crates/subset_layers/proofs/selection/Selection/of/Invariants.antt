use Rattle.subset_layers.proofs.ChosenNumbers.{IsChoosing}
use Rattle.subset_layers.proofs.selection.Selection.of.Given as goal

abbrev pub invariant-loop-number : goal.invariant-loop-number
invariant-loop-number l = IsChoosing l.flags l.number l.numbers.items l.places.items
