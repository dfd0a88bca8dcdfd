use Rattle.certificate.proofs.Numbers.{unbounded}
use Rattle.certificate.proofs.words.number.Goals as goal

pub returns-in_err-value-clause-none : goal.returns-in_err-value-clause-none
returns-in_err-value-clause-none c =
    rw c.from_residual.ensures
    (unbounded c.args.least c.args.most c.args.word.now c.requires (λ n few low high same e. c.in_err-value.ensures.none n few e))
