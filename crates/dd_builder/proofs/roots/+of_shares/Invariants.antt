use Rattle.dd_builder.proofs.roots.+of_shares.Given as goal

abbrev pub decreases-of_shares : goal.decreases-of_shares
decreases-of_shares l = l.count
