use Rattle.std.proofs.Common.{rules}
use Rattle.minorder_c.proofs.Refusals.{tables_refused}
use Rattle.minorder_c.proofs.verdicts.judgement_on.Goals as goal

pub returns-in_err-tables-clause-refused : goal.returns-in_err-tables-clause-refused
returns-in_err-tables-clause-refused c = search (rules, tables_refused)
