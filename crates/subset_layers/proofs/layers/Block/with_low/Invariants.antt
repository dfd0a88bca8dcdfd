use Rattle.std.proofs.Common.{◌≡◌, ◌≤◌, ◌+◌, ◌*◌, take, map, length, nat_eq}
use Rattle.std.specs.List.{filter, range_with_len}
use Rattle.definitions.specs.Orders.{members}
use Rattle.subset_layers.proofs.layers.Block.with_low.Given as goal

abbrev pub invariant-loop-high : goal.invariant-loop-high
invariant-loop-high l =
    ((l.count ≤ l.high)
    × (take l.count l.masks ≡ filter (λ mask. nat_eq (length (members l.inputs mask)) l.size) (map (λ high. high * 256 + l.low) (range_with_len 0 l.high))))
    × (length l.masks ≡ 256)
