use Rattle.std.proofs.Common.{◌≡◌, ◌++◌, ℕ, List, length}
use Rattle.pla_reader.specs.Text.{lines_of}
use Rattle.pla_reader.specs.Lines.{said}
use Rattle.pla_reader.proofs.PlaceLemmas.{names_of}
use Rattle.pla_reader.proofs.places.name_places.Given as goal

abbrev pub invariant-loop-rest : goal.invariant-loop-rest
invariant-loop-rest l = record {
  same : names_of l.names (said l.rest) ≡ names_of l.names (said l.bytes);
  tail : (gone : List ℕ) × (l.bytes ≡ gone ++ l.rest);
  lines : (before : List (List ℕ)) × (lines_of l.bytes ≡ before ++ lines_of l.rest);
}

abbrev pub decreases-loop-rest : goal.decreases-loop-rest
decreases-loop-rest l = length l.rest
