use Rattle.round_trip.proofs.AcceptedTexts.{accepted}
use Rattle.round_trip.proofs.laws.written_certificates_are_accepted.Goals as goal

pub returns : goal.returns
returns c = accepted
