use Rattle.definitions.proofs.Lists.Accepted.{Seen}
use Rattle.definitions.proofs.Precedence.MaskLaws.{KeptTo}
use Rattle.order_model.proofs.pairs.Pairs.keeps.Given as goal

abbrev pub invariant-loop-x : goal.invariant-loop-x
invariant-loop-x l = Seen l.x-items l.x-index l.seen × KeptTo l.self-inside.below l.x-items l.x-index
