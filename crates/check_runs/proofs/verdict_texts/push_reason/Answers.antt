use Rattle.std.proofs.Common.{arith}
use Rattle.certificate.proofs.WrittenLines.{zero_padded}
use Rattle.check_runs.proofs.verdict_texts.push_reason.Goals as goal

pub returns-in_ok-write-in-Edge : goal.returns-in_ok-write-in-Edge
returns-in_ok-write-in-Edge c =
    let laid_out = rw c.laid_out.ensures at c.in_ok-write-in-Edge.ensures.bytes in
    let in_digits = rw c.in_radix.ensures at laid_out in
    let written = rw (zero_padded c.in-Edge.mask (omega arith)) at in_digits in
    rw c.in-Edge.is written
