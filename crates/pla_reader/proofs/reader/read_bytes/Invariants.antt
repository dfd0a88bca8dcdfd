use Rattle.std.proofs.Common.{◌+◌, ◌≤◌, length}
use Rattle.pla_reader.specs.Lines.{said}
use Rattle.pla_reader.specs.Progress.{state_of}
use Rattle.pla_reader.proofs.ReadLemmas.{Reached}
use Rattle.pla_reader.proofs.reader.read_bytes.Given as goal

abbrev pub invariant-loop-rest : goal.invariant-loop-rest
invariant-loop-rest l = record {
  reached : Reached (said l.bytes) (said l.rest) l.number (state_of l.progress);
  counted : l.number + length l.rest ≤ length l.bytes;
}

abbrev pub decreases-loop-rest : goal.decreases-loop-rest
decreases-loop-rest l = length l.rest
