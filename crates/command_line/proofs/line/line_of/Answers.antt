use Rattle.std.proofs.Common.{rules}
use Rattle.command_line.proofs.line.line_of.Goals as goal

pub returns-clause-line : goal.returns-clause-line
returns-clause-line c = search rules
