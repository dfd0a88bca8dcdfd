use Rattle.node_words.proofs.Functions.{denotes_grows}
use Rattle.node_words.proofs.laws.growth_keeps_functions.Goals as goal

pub returns : goal.returns
returns c = λ order ws later nodes g id f d. denotes_grows order ws nodes later g id f d
