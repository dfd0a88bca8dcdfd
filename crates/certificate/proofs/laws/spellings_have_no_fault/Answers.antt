use Rattle.certificate.proofs.Spellings.{no_fault}
use Rattle.certificate.proofs.laws.spellings_have_no_fault.Goals as goal

pub returns : goal.returns
returns c = no_fault
