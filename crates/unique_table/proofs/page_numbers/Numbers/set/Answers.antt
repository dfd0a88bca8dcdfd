use Rattle.std.proofs.Common.{set, arith}
use Rattle.unique_table.proofs.PageNumbers.{numbers_long, in_places, part_in, numbers_set}
use Rattle.std.proofs.lemmas.Grind.{common_steps}
use Rattle.unique_table.proofs.page_numbers.Numbers.set.Goals as goal

pub open_page-requires-clause-part : goal.open_page-requires-clause-part
open_page-requires-clause-part c = grind (arith, in_places, part_in)

pub returns-in_err-page-clause-many : goal.returns-in_err-page-clause-many
returns-in_err-page-clause-many c = grind (arith, numbers_long)

pub returns-clause-many : goal.returns-clause-many
returns-clause-many c = grind (arith, numbers_long, set)

pub returns-clause-set : goal.returns-clause-set
returns-clause-set c = grind (arith, in_places, numbers_set, set)

pub overflow_mul-page : goal.overflow_mul-page
overflow_mul-page c = grind (arith, common_steps)

pub overflow_add-page : goal.overflow_add-page
overflow_add-page c = grind (arith, common_steps)

pub index_mut-requires : goal.index_mut-requires
index_mut-requires c = grind (arith, common_steps)
