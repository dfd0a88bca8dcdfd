use Rattle.sifting.proofs.DiagramTables.{roots_many, tables_same}
use Rattle.sifting.proofs.laws.diagrams_have_their_functions_tables.Goals as goal

pub returns-clause-roots : goal.returns-clause-roots
returns-clause-roots c = roots_many

pub returns-clause-tables : goal.returns-clause-tables
returns-clause-tables c = tables_same
