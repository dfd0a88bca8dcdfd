use Rattle.unique_table.proofs.KindLaws.{same_function_ids, same_id_functions}
use Rattle.unique_table.proofs.laws.equal_functions_have_equal_ids.Goals as goal

pub returns : goal.returns
returns c = search (same_function_ids, same_id_functions)
