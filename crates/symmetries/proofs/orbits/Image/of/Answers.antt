use Rattle.symmetries.proofs.ImageWidths.{own_widths}
use Rattle.symmetries.proofs.orbits.Image.of.Goals as goal

pub returns-clause-widths : goal.returns-clause-widths
returns-clause-widths c p few small = own_widths p c.args.set c.own_variables.result few small c.own_variables.ensures
