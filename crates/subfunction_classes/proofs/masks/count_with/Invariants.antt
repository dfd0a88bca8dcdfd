use Rattle.std.proofs.Common.{◌≡◌, ◌≤◌, eqb, take, length}
use Rattle.std.specs.Int.{bit_at}
use Rattle.std.specs.List.{filter}
use Rattle.subfunction_classes.proofs.masks.count_with.Given as goal

abbrev pub invariant-loop-mask : goal.invariant-loop-mask
invariant-loop-mask l = record { count : l.count ≡ length (filter (λ m. eqb (bit_at m l.x) 1) (take l.mask-index l.masks)); few : l.count ≤ l.mask-index }
