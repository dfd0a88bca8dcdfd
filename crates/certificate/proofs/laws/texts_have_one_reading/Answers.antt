use Rattle.certificate.proofs.Faultless.{spelled_or_faulty, spelled_not_faulty, one_first_fault}
use Rattle.certificate.proofs.laws.texts_have_one_reading.Goals as goal

pub returns-clause-some : goal.returns-clause-some
returns-clause-some c = spelled_or_faulty

pub returns-clause-not_both : goal.returns-clause-not_both
returns-clause-not_both c = spelled_not_faulty

pub returns-clause-one_fault : goal.returns-clause-one_fault
returns-clause-one_fault c = one_first_fault
