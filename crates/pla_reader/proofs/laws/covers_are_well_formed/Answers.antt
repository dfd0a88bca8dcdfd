use Rattle.pla_reader.proofs.laws.covers_are_well_formed.Goals as goal
use Rattle.pla_reader.specs.Lines.{said}
use Rattle.pla_reader.proofs.WellFormed.{well_formed}

pub returns : goal.returns
returns c bytes = well_formed (said bytes)
