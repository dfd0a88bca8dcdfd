use Rattle.std.proofs.Common.{◌≡◌, ℕ, ◌+◌, ◌*◌, ◌<◌, ◌≤◌, Bool, false, List, length, get_or}
use Rattle.definitions.specs.Problems.{packed_bit}
use Rattle.compaction.specs.NamedStrips.{NamesStrips}
use Rattle.compaction.proofs.values.push_strips.Given as goal

abbrev pub invariant-loop-place : goal.invariant-loop-place
invariant-loop-place l = record {
  long : length l.found.outer.items ≡ length l.initial.found.outer.items + l.place;
  room : length l.found.strips.keys ≤ length l.initial.found.strips.keys + l.place;
  names : (values : List Bool) → NamesStrips values l.initial.found.outer.items l.initial.found.strips.keys →
      ((k : ℕ) → k < length l.words * 64 → packed_bit l.words k ≡ get_or values (length l.initial.found.outer.items * 256 + k) false) →
      NamesStrips values l.found.outer.items l.found.strips.keys;
}
