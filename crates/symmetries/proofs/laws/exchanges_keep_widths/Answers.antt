use Rattle.symmetries.proofs.SymmetricWidths.{width_exchanged}
use Rattle.symmetries.proofs.laws.exchanges_keep_widths.Goals as goal

pub returns : goal.returns
returns c = width_exchanged
