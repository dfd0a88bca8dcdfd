use Rattle.node_words.proofs.Functions.{one_id}
use Rattle.node_words.proofs.laws.equal_functions_have_equal_ids.Goals as goal

pub returns : goal.returns
returns c = λ order ws is nodes unequal a b f da db. one_id order ws nodes unequal a b f is da db
