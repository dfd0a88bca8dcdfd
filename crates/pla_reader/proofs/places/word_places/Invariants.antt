use Rattle.std.proofs.Common.{◌≡◌, ◌+◌, ◌++◌, ℕ, List, length, map}
use Rattle.std.specs.List.{All}
use Rattle.pla_reader.specs.Places.{LiesIn, bytes_at}
use Rattle.pla_reader.specs.Text.{words}
use Rattle.pla_reader.proofs.places.word_places.Given as goal

abbrev pub invariant-loop-word : goal.invariant-loop-word
invariant-loop-word l = record {
  places : (front back : List ℕ) → length front ≡ l.start → map (bytes_at (front ++ l.text ++ back)) l.places.items ++ words l.rest ≡ words l.text;
  inside : All (LiesIn l.start (l.start + length l.text)) l.places.items;
  tail : (gone : List ℕ) × (l.text ≡ gone ++ l.rest);
}

abbrev pub decreases-loop-word : goal.decreases-loop-word
decreases-loop-word l = length l.rest
