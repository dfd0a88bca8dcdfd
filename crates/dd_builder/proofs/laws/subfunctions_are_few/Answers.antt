use Rattle.dd_builder.proofs.LevelBounds.{size_few}
use Rattle.dd_builder.proofs.Ranks.{few}
use Rattle.dd_builder.proofs.Bound.{most_fit}
use Rattle.dd_builder.proofs.laws.subfunctions_are_few.Goals as goal

pub returns : goal.returns
returns c = record {
  few = λ order t ws count is nodes unequal subs full. few order t ws is nodes unequal count subs full;
  sizes = size_few;
  fit = most_fit;
}
