use Rattle.std.proofs.Common.{◌≡◌, ℕ, ◌<◌, ◌^◌, length, nat_eq, get_or, false}
use Rattle.definitions.specs.Orders.{members}
use Rattle.subset_layers.proofs.layers.size_flags.Given as goal

abbrev pub invariant-loop-mask : goal.invariant-loop-mask
invariant-loop-mask l =
    (length l.flags.items ≡ 2 ^ l.inputs)
    × ((i : ℕ) → i < l.mask → get_or l.flags.items i false ≡ nat_eq (length (members l.inputs i)) l.size)
