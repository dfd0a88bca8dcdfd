use Rattle.std.proofs.Common.{◌≡◌, ◌≤◌, ◌+◌, length}
use Rattle.certificate.specs.Faults.{words}
use Rattle.certificate.proofs.lines.count_words.Given as goal

abbrev pub invariant-loop-more : goal.invariant-loop-more
invariant-loop-more l = record {
  counted : l.count + length (words l.rest) ≡ length (words l.text) + 1;
  taken : l.count + length l.rest ≤ length l.text + 1;
}

abbrev pub decreases-loop-more : goal.decreases-loop-more
decreases-loop-more l = length l.rest
