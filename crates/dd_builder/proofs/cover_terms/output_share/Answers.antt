use Rattle.std.proofs.Common.{false, take, arith}
use Rattle.std.proofs.lemmas.List.{length-map, get_or-map}
use Rattle.definitions.specs.Products.{product_function}
use Rattle.unique_table.specs.Plans.{share, products_of}
use Rattle.unique_table.proofs.SessionsGoOn.{follows_trans}
use Rattle.dd_builder.proofs.SessionSteps.{stays, means_same, means_at, makes_refused}
use Rattle.dd_builder.proofs.RestrictedNodes.{constant_means}
use Rattle.dd_builder.proofs.Shares.{share_start, share_next, none}
use Rattle.std.proofs.lemmas.Grind.{common_steps}
use Rattle.dd_builder.proofs.cover_terms.output_share.Goals as goal

pub loop-number-init : goal.loop-number-init
loop-number-init c = let small = c.requires.share in record {
  store = c.requires.session;
  follows = stays c.args.session.now;
  place = omega arith;
  means = constant_means c.args.session.now false
      (product_function (share c.args.share (take c.args.share (products_of c.args.store.now.plan.problem.value c.args.terms.now)))
      c.args.output)
      (λ p l. share_start c.args.share c.args.output (products_of c.args.store.now.plan.problem.value c.args.terms.now) p small);
}

pub loop-number-preserved : goal.loop-number-preserved
loop-number-preserved c = grind (arith, length-map, get_or-map, none, follows_trans, means_same, share_next, means_at)

pub returns-in_err-id : goal.returns-in_err-id
returns-in_err-id c = makes_refused _ _ _ _ _ _ _ c.loop-number.invariant.follows c.in_err-id.ensures c.from_residual.ensures.0

pub returns : goal.returns
returns c = grind (arith, common_steps)
