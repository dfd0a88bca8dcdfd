use Rattle.std.proofs.Common.{◌≡◌, eqb, length, take}
use Rattle.std.specs.Int.{bit_at}
use Rattle.std.specs.List.{filter}
use Rattle.order_model.proofs.lower_bounds.count_with.Given as goal

abbrev pub invariant-loop-set : goal.invariant-loop-set
invariant-loop-set l = l.count ≡ length (filter (λ s. eqb (bit_at s l.x) 1) (take l.set-index l.sets))
