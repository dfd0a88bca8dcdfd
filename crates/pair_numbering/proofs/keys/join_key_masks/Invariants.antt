use Rattle.std.proofs.Common.{◌≡◌, ◌+◌, ◌*◌, map, length}
use Rattle.std.specs.List.{range_with_len}
use Rattle.pair_numbering.specs.Keys.{joined_key_mask}
use Rattle.pair_numbering.proofs.keys.join_key_masks.Given as goal

abbrev pub invariant-loop-upper : goal.invariant-loop-upper
invariant-loop-upper l = l.joined.items ≡ map (joined_key_mask l.masks l.x) (range_with_len 0 (l.upper * length l.masks))

abbrev pub invariant-loop-lower : goal.invariant-loop-lower
invariant-loop-lower l = l.joined.items ≡ map (joined_key_mask l.masks l.x) (range_with_len 0 (l.upper * length l.masks + l.lower))
