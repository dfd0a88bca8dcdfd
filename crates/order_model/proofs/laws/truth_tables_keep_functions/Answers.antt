use Rattle.std.proofs.Common.{map}
use Rattle.definitions.specs.Functions.{from_table, table}
use Rattle.definitions.proofs.Functions.Same.{tables_same, level_counts_same}
use Rattle.order_model.proofs.laws.truth_tables_keep_functions.Goals as goal

pub returns-clause-same : goal.returns-clause-same
returns-clause-same c = tables_same

pub returns-clause-counts : goal.returns-clause-counts
returns-clause-counts c = λ n F order. level_counts_same n (map from_table (map (table n) F)) F (tables_same n F) order
