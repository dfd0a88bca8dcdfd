use Rattle.std.proofs.Common.{◌≡◌, ◌≤◌, ◌-◌, length, take}
use Rattle.std.specs.Io.KnownBytes.{Appends}
use Rattle.counted_io.proofs.whole.write_whole.Given as goal

abbrev pub decreases-loop-at : goal.decreases-loop-at
decreases-loop-at g l = length l.text - l.at

abbrev pub invariant-loop-at : goal.invariant-loop-at
invariant-loop-at g l = record {
  fits : l.at ≤ length l.text;
  put : Appends (g.W.CountedWrite.contents l.fn.device) (g.W.CountedWrite.contents l.device) (take l.at l.text);
  calls : g.W.CountedWrite.failures l.device ≡ g.W.CountedWrite.failures l.fn.device;
}
