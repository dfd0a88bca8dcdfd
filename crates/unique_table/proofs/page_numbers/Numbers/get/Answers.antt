use Rattle.std.proofs.Common.{arith}
use Rattle.std.proofs.lemmas.List.{get_or_default}
use Rattle.unique_table.proofs.PageNumbers.{in_places, number_is, part_in, number_in}
use Rattle.unique_table.proofs.page_numbers.Numbers.get.Goals as goal

pub index-requires : goal.index-requires
index-requires c = grind (arith, in_places, part_in)

pub overflow_mul-index : goal.overflow_mul-index
overflow_mul-index c = grind (arith, in_places, part_in, number_in, get_or_default)

pub overflow_add-index : goal.overflow_add-index
overflow_add-index c = grind (arith, in_places, part_in, number_in, get_or_default)

pub index-requires-2 : goal.index-requires-2
index-requires-2 c = grind (arith, in_places, part_in, number_in, get_or_default)

pub returns : goal.returns
returns c = grind (arith, in_places, part_in, number_in, get_or_default, number_is)
