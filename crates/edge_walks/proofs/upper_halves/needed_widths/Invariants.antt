use Rattle.std.proofs.Common.{◌≡◌, ℕ, ◌+◌, ◌-◌, ◌<◌, ◌≤◌, ◌^◌, length, slice_index}
use Rattle.std.specs.Int.{bit_at}
use Rattle.edge_walks.proofs.upper_halves.needed_widths.Given as goal

abbrev pub invariant-loop-y : goal.invariant-loop-y
invariant-loop-y l = record {
  long : length l.needed.items ≡ l.inputs;
  enough : (y : ℕ) → y < l.y → bit_at (slice_index l.edges.judged.now l.set) y ≡ 1 →
      slice_index l.edges.values.now l.set ≤ slice_index l.edges.values.now (l.set - 2 ^ y) + slice_index l.needed.items y;
}
