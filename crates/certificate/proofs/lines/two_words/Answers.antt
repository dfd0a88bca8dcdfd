use Rattle.std.proofs.Common.{sym, ◌∙◌, ap, length, ◌∷◌, arith}
use Rattle.certificate.proofs.LineWords.{cut_words, whole_word, some_word}
use Rattle.certificate.proofs.lines.two_words.Goals as goal

pub returns-in_default-clause-none : goal.returns-in_default-clause-none
returns-in_default-clause-none c a b e = let one = ap length (sym (whole_word c.args.line.now c.in_default.ensures.none) ∙ e) in absurd (omega arith)

pub returns-in-None-clause-some : goal.returns-in-None-clause-some
returns-in-None-clause-some c =
    cut_words c.args.line.now c.in-Some.first.now c.in-Some.rest.now c.in-Some.ensures.some
    ∙ ap (λ ws. c.in-Some.first.now ∷ ws) (whole_word c.in-Some.rest.now c.in-None.ensures.none)

pub returns-in-Some-cut-clause-none : goal.returns-in-Some-cut-clause-none
returns-in-Some-cut-clause-none c a b e =
    let cuts = cut_words c.args.line.now c.in-Some.first.now c.in-Some.rest.now c.in-Some.ensures.some in
    let more = cut_words c.in-Some.rest.now c.in-Some-cut.field-0.0.now c.in-Some-cut.field-0.1.now c.in-Some-cut.ensures.some in
    let third = some_word c.in-Some-cut.field-0.1.now in
    grind arith
