use Rattle.order_counts.proofs.LayerCounts.{below_from_layer}
use Rattle.order_counts.proofs.layer_counts.counts_in_layer.Goals as goal

pub counts_of_set-requires-clause-smaller : goal.counts_of_set-requires-clause-smaller
counts_of_set-requires-clause-smaller c =
    below_from_layer c.args.given c.args.smaller.now c.args.set c.args.size c.requires.within c.if-set-size.true c.requires.size c.requires.smaller
