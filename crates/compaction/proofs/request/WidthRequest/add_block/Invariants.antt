use Rattle.std.proofs.Common.{◌≡◌, ◌<◌, ℕ, length, slice_index}
use Rattle.std.specs.Int.{bit_at}
use Rattle.subset_layers.specs.Layers.{block_masks}
use Rattle.compaction.specs.Requests.{asked}
use Rattle.compaction.proofs.request.WidthRequest.add_block.Given as goal

abbrev pub invariant-loop-i : goal.invariant-loop-i
invariant-loop-i l = record {
  inputs : l.self.inputs ≡ l.initial.self.inputs;
  low : l.self.low ≡ l.initial.self.low;
  long : length l.self.needed.items ≡ length l.initial.self.needed.items;
  added : (k : ℕ) → k < l.i → (x : ℕ) → bit_at (slice_index l.needed k) x ≡ 1 →
      bit_at (asked l.self.needed.items (slice_index (block_masks l.block) k)) x ≡ 1;
  kept : (h x : ℕ) → bit_at (slice_index l.initial.self.needed.items h) x ≡ 1 → bit_at (slice_index l.self.needed.items h) x ≡ 1;
}
