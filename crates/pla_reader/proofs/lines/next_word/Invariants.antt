use Rattle.std.proofs.Common.{◌≡◌, ◌≤◌, length}
use Rattle.pla_reader.specs.Text.{words}
use Rattle.pla_reader.proofs.TextLemmas.{EndsIn}
use Rattle.pla_reader.proofs.lines.next_word.Given as goal

abbrev pub invariant-loop-rest : goal.invariant-loop-rest
invariant-loop-rest l = record {
  same : words l.text ≡ words l.rest;
  shorter : length l.rest ≤ length l.text;
  tail : EndsIn l.text l.rest;
}

abbrev pub decreases-loop-rest : goal.decreases-loop-rest
decreases-loop-rest l = length l.rest
