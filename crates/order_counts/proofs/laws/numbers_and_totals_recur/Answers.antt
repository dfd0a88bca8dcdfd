use Rattle.std.proofs.Common.{length, ap}
use Rattle.definitions.proofs.Widths.AllOrders.{lists_empty, total_empty, number_recur, total_recur}
use Rattle.order_counts.proofs.laws.numbers_and_totals_recur.Goals as goal

pub returns-clause-empty_number : goal.returns-clause-empty_number
returns-clause-empty_number c = λ P. ap length (lists_empty P)

pub returns-clause-empty_total : goal.returns-clause-empty_total
returns-clause-empty_total c = total_empty

pub returns-clause-number : goal.returns-clause-number
returns-clause-number c = number_recur

pub returns-clause-total : goal.returns-clause-total
returns-clause-total c = λ n F P S z d l h. total_recur P S z d l h n F
