use Rattle.definitions.specs.PairTexts.{listed}
use Rattle.order_model.proofs.pairs.Pairs.parse.Goals as goal

pub returns : goal.returns
returns c = c.of_masks.ensures (listed c.args.text.now) c.in-Some.ensures
