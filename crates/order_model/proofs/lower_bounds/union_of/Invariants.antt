use Rattle.std.proofs.Common.{◌≡◌, bit_or, take}
use Rattle.std.specs.List.{fold}
use Rattle.order_model.proofs.lower_bounds.union_of.Given as goal

abbrev pub invariant-loop-set : goal.invariant-loop-set
invariant-loop-set l = l.«union» ≡ fold bit_or 0 (take l.set-index l.sets)
