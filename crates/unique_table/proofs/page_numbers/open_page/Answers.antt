use Rattle.std.proofs.Common.{rules}
use Rattle.unique_table.proofs.page_numbers.open_page.Goals as goal

pub returns-clause-same : goal.returns-clause-same
returns-clause-same c = search rules
