use Rattle.std.proofs.Common.{rules}
use Rattle.command_line.proofs.usage.UsageFromError.from.Goals as goal

pub returns-in-DisplayHelp : goal.returns-in-DisplayHelp
returns-in-DisplayHelp c = search rules
