use Rattle.sifting.proofs.SplitCuts.{ref_small, ref_large}
use Rattle.sifting.proofs.build.reference.Goals as goal

pub returns-then-code-lt2 : goal.returns-then-code-lt2
returns-then-code-lt2 c = ref_small c.args.code c.if-code-lt2.true

pub returns-else-code-lt2 : goal.returns-else-code-lt2
returns-else-code-lt2 c = ref_large c.args.code c.if-code-lt2.false
