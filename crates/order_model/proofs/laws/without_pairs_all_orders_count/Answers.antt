use Rattle.definitions.proofs.Precedence.NoPairs.{fewest_plain, first_plain}
use Rattle.order_model.proofs.laws.without_pairs_all_orders_count.Goals as goal

pub returns-clause-fewest : goal.returns-clause-fewest
returns-clause-fewest c = fewest_plain

pub returns-clause-first : goal.returns-clause-first
returns-clause-first c = first_plain
