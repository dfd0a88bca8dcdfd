use Rattle.std.proofs.Common.{◌≡◌, ◌++◌, ◌^◌, bit_or, map, take}
use Rattle.symmetries.proofs.images.add_variable.Given as goal

abbrev pub invariant-loop-set : goal.invariant-loop-set
invariant-loop-set l = l.images.items ≡ l.initial.images.items ++ map (λ image. bit_or image (2 ^ l.partner)) (take l.set l.initial.images.items)
