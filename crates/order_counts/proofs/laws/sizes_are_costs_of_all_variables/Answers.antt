use Rattle.definitions.proofs.Widths.OrderSizes.{orders_are_lists, sizes_are_ways, size_total_is_cost_total, most_is_most_cost}
use Rattle.order_counts.proofs.laws.sizes_are_costs_of_all_variables.Goals as goal

pub returns-clause-orders : goal.returns-clause-orders
returns-clause-orders c = orders_are_lists

pub returns-clause-sizes : goal.returns-clause-sizes
returns-clause-sizes c = λ n F P order s o k. sizes_are_ways n P order o k F s

pub returns-clause-total : goal.returns-clause-total
returns-clause-total c = λ n F P order o k. size_total_is_cost_total n P order o k F

pub returns-clause-most : goal.returns-clause-most
returns-clause-most c = λ n F P order o k. most_is_most_cost n P order o k F
