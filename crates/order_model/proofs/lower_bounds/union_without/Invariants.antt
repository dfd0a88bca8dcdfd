use Rattle.std.proofs.Common.{◌≡◌, bit_or, eqb, not, take}
use Rattle.std.specs.Int.{bit_at}
use Rattle.std.specs.List.{filter, fold}
use Rattle.order_model.proofs.lower_bounds.union_without.Given as goal

abbrev pub invariant-loop-set : goal.invariant-loop-set
invariant-loop-set l = l.«union» ≡ fold bit_or 0 (filter (λ s. not (eqb (bit_at s l.x) 1)) (take l.set-index l.sets))
