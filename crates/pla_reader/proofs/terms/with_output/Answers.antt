use Rattle.pla_reader.proofs.TermLemmas.{writes_one}
use Rattle.pla_reader.proofs.terms.with_output.Goals as goal

pub returns-in-49-clause-masks : goal.returns-in-49-clause-masks
returns-in-49-clause-masks c = writes_one c.args.masks c.args.at c.args.b c.requires.small c.in-49.is
