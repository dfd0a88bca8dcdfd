use Rattle.definitions.proofs.Precedence.Texts.{MasksTo}
use Rattle.order_model.proofs.pairs.masks_of.Given as goal

abbrev pub invariant-loop-i : goal.invariant-loop-i
invariant-loop-i l = MasksTo l.pairs l.i l.below
