use Rattle.unique_table.proofs.KindLaws.{kind_look, kind_put, kind_publish, kind_collect, kind_recall, kind_remember}
use Rattle.unique_table.proofs.laws.steps_are_of_their_kinds.Goals as goal

pub returns : goal.returns
returns c = record {
  look = λ b s id v p is. kind_look b s id v is p;
  put = λ b s id v p w is. kind_put b s id v is p w;
  publish = λ b s id v q ref is. kind_publish b s id v is q ref;
  collect = λ b s id v q is. kind_collect b s id v is q;
  recall = λ b s id v e is. kind_recall b s id v is e;
  remember = λ b s id v e w is. kind_remember b s id v is e w;
}
