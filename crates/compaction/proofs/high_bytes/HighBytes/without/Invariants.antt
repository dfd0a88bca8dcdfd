use Rattle.std.proofs.Common.{◌≡◌, ◌<◌, ℕ, length}
use Rattle.std.specs.Int.{bit_at}
use Rattle.compaction.specs.HighBytes.{HasByte}
use Rattle.compaction.proofs.high_bytes.HighBytes.without.Given as goal

abbrev pub invariant-loop-i : goal.invariant-loop-i
invariant-loop-i l = record {
  four : length l.words ≡ 4;
  kept : (h : ℕ) → h < 256 → HasByte l.self.words h → bit_at h l.y ≡ 0 → HasByte l.words h;
}
