use Rattle.std.proofs.Common.{◌≡◌, ◌≤◌, ◌-◌, ◌+◌, vec_len}
use Rattle.std.specs.Io.KnownBytes.{Consumes}
use Rattle.counted_io.proofs.whole.read_all.Given as goal

abbrev pub decreases-loop-bytes : goal.decreases-loop-bytes
decreases-loop-bytes g l = l.limit + 1 - vec_len l.bytes

abbrev pub invariant-loop-bytes : goal.invariant-loop-bytes
invariant-loop-bytes g l = record {
  fits : vec_len l.bytes ≤ l.limit;
  taken : Consumes (g.R.CountedRead.remaining l.fn.device) (g.R.CountedRead.remaining l.device) l.bytes.items;
  calls : g.R.CountedRead.failures l.device ≡ g.R.CountedRead.failures l.fn.device;
}
