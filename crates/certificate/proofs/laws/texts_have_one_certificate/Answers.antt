use Rattle.certificate.proofs.Spellings.{one_form}
use Rattle.certificate.proofs.laws.texts_have_one_certificate.Goals as goal

pub returns : goal.returns
returns c = one_form
