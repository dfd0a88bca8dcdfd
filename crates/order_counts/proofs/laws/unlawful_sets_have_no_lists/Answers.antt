use Rattle.definitions.proofs.Widths.AllOrders.{lists_none}
use Rattle.order_counts.proofs.laws.unlawful_sets_have_no_lists.Goals as goal

pub returns : goal.returns
returns c = lists_none
