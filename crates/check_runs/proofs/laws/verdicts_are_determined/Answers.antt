use Rattle.check_runs.proofs.OneVerdict.{judge_unique}
use Rattle.check_runs.proofs.laws.verdicts_are_determined.Goals as goal

pub returns : goal.returns
returns c = judge_unique
