use Rattle.std.proofs.Common.{◌≡◌, ℕ, ◌<◌, ◌%◌, take, length, nat_eq, get_or, false}
use Rattle.std.specs.List.{list_any}
use Rattle.subset_layers.proofs.layers.low_flags.Given as goal

abbrev pub invariant-loop-mask : goal.invariant-loop-mask
invariant-loop-mask l =
    (length l.flags.items ≡ 256)
    × ((low : ℕ) → low < 256 → get_or l.flags.items low false ≡ list_any (λ mask. nat_eq (mask % 256) low) (take l.mask-index l.masks))
