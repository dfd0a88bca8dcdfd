use Rattle.subfunction_classes.proofs.CountedWidths.{width_is_dependent_classes}
use Rattle.subfunction_classes.proofs.laws.one_numbering_gives_all_widths.Goals as goal

pub returns : goal.returns
returns c = width_is_dependent_classes
