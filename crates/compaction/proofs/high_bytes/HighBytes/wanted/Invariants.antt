use Rattle.std.proofs.Common.{◌≡◌, ◌≢◌, ◌<◌, ℕ, length, slice_index}
use Rattle.compaction.specs.HighBytes.{HasByte}
use Rattle.compaction.proofs.high_bytes.HighBytes.wanted.Given as goal

abbrev pub invariant-loop-h : goal.invariant-loop-h
invariant-loop-h l = record {
  four : length l.words ≡ 4;
  so_far : (k : ℕ) → k < l.h → slice_index l.needed k ≢ 0 → HasByte l.words k;
}
