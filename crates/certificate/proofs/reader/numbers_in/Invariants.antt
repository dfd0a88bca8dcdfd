use Rattle.std.proofs.Common.{◌≡◌, ◌++◌, map, length}
use Rattle.std.specs.List.{list_all}
use Rattle.definitions.specs.Texts.{number_of}
use Rattle.certificate.specs.Faults.{words, is_decimal}
use Rattle.certificate.proofs.reader.numbers_in.Given as goal

abbrev pub invariant-loop-word : goal.invariant-loop-word
invariant-loop-word l = record {
  numbers : l.numbers.items ++ map number_of (words l.rest) ≡ map number_of (words l.text);
  passes : list_all (is_decimal 0 l.most) (words l.text) ≡ list_all (is_decimal 0 l.most) (words l.rest);
}

abbrev pub decreases-loop-word : goal.decreases-loop-word
decreases-loop-word l = length l.rest
