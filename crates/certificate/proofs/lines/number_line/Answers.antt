use Rattle.certificate.proofs.LineWords.{not_two}
use Rattle.certificate.specs.Faults.{words}
use Rattle.certificate.proofs.lines.number_line.Goals as goal

pub returns-in_default : goal.returns-in_default
returns-in_default c = not_two c.args.name.now c.args.least c.args.most (words c.args.line.now) c.in_default.ensures.none
