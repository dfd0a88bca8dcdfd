use Rattle.std.proofs.Common.{◌≤◌, ◌-◌, refl, length, codes}
use Rattle.certificate.specs.Spelling.{most_pairs, pair_key}
use Rattle.certificate.specs.Faults.{is_pair, pair_key_of}
use Rattle.certificate.specs.Reading.{FitsCount, StaysWithin}
use Rattle.certificate.specs.Decoded.{read_pair}
use Rattle.certificate.proofs.LineSteps.{Reached}
use Rattle.certificate.proofs.reader.Lines.pairs.Given as goal

abbrev pub invariant-loop-n : goal.invariant-loop-n
invariant-loop-n l = record {
  reached : Reached read_pair pair_key (codes "pairs") most_pairs (is_pair l.fn.n) pair_key_of (λ a b. refl) l.fn.self.number
      l.fn.self.rest.now l.count (length l.pairs.items) l.last l.pairs.items l.self.number l.self.rest.now;
  few : length l.pairs.items ≤ l.count;
  small : FitsCount l.self;
  bound : StaysWithin l.fn.self l.self;
}

abbrev pub decreases-loop-n : goal.decreases-loop-n
decreases-loop-n l = l.count - length l.pairs.items
