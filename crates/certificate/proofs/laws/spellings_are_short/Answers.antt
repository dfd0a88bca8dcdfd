use Rattle.certificate.proofs.Lengths.{spelling_length, text_readable}
use Rattle.certificate.proofs.laws.spellings_are_short.Goals as goal

pub returns-clause-bytes : goal.returns-clause-bytes
returns-clause-bytes c = spelling_length

pub returns-clause-readable : goal.returns-clause-readable
returns-clause-readable c = text_readable
