use Rattle.unique_table.proofs.KindLaws.{only_seat}
use Rattle.unique_table.proofs.Stakes.{stays_whole, halves_join}
use Rattle.unique_table.proofs.laws.whole_stakes_are_alone.Goals as goal

pub returns : goal.returns
returns c = record {
  only = λ b s i j v w a d all. only_seat b s i j v w a d all;
  stays = λ s s' on alone. stays_whole s.stake s'.stake on.stake alone;
  joined = λ s a b f g. halves_join s a b f g;
}
