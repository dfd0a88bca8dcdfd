use Rattle.std.proofs.Common.{◌≡◌, ◌-◌, ◌%◌, length, take}
use Rattle.definitions.specs.Products.{product_function}
use Rattle.unique_table.specs.Plans.{share, products_of}
use Rattle.unique_table.specs.Sessions.{Follows, Means}
use Rattle.dd_builder.proofs.cover_terms.output_share.Given as goal

abbrev pub invariant-loop-number : goal.invariant-loop-number
invariant-loop-number l = record {
  store : l.session.store ≡ l.store;
  follows : Follows l.fn.session l.session;
  place : l.number % 64 ≡ l.share;
  means : Means l.session l.id (product_function (share l.share (take l.number (products_of l.store.plan.problem.value l.terms))) l.output);
}

abbrev pub decreases-loop-number : goal.decreases-loop-number
decreases-loop-number l = length l.terms - l.number
