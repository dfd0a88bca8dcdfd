use Rattle.std.proofs.Common.{◌≡◌, true, map, ◌++◌, length}
use Rattle.std.specs.List.{list_all}
use Rattle.std.specs.String.{string_bytes}
use Rattle.pla_reader.specs.Text.{words, is_name}
use Rattle.pla_reader.proofs.names.names.Given as goal

abbrev pub invariant-loop-word : goal.invariant-loop-word
invariant-loop-word l = record {
  whole : map string_bytes l.names.items ++ words l.rest ≡ words l.text;
  named : list_all is_name (words l.rest) ≡ true;
}

abbrev pub decreases-loop-word : goal.decreases-loop-word
decreases-loop-word l = length l.rest
