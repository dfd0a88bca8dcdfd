use Rattle.pla_reader.proofs.TermLemmas.{reads_zero, reads_one}
use Rattle.pla_reader.proofs.terms.with_input.Goals as goal

pub returns-in-48-clause-masks : goal.returns-in-48-clause-masks
returns-in-48-clause-masks c = reads_zero c.args.masks c.args.at c.args.b c.requires.small c.requires.fresh c.in-48.is

pub returns-in-49-clause-masks : goal.returns-in-49-clause-masks
returns-in-49-clause-masks c = reads_one c.args.masks c.args.at c.args.b c.requires.small c.in-49.is
