use Rattle.std.proofs.Common.{◌+◌, Some, take, refl, sym, subst, arith}
use Rattle.std.proofs.lemmas.List.{take_rest}
use Rattle.certificate.specs.Parsing.{Cuts}
use Rattle.certificate.proofs.FirstSeparators.{cut_at, cut_nowhere}
use Rattle.certificate.proofs.words.cut.Goals as goal

pub returns-in_err-place-clause-none : goal.returns-in_err-place-clause-none
returns-in_err-place-clause-none c = grind (arith, cut_nowhere)

pub returns-clause-some : goal.returns-clause-some
returns-clause-some c =
    let text = c.args.text.now in
    let k = c.in_ok-place.place in
    subst (Cuts c.args.byte text (take k text)) (sym (take_rest text (k + 1))) (cut_at c.args.byte text (Some k) k c.in_ok-place.ensures.first refl)
