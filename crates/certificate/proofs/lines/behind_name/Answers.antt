use Rattle.std.proofs.Common.{◌≡◌, true, ◌∙◌, ap, ◌∷◌, arith, rules}
use Rattle.definitions.specs.Texts.{same}
use Rattle.certificate.specs.Faults.{words}
use Rattle.certificate.proofs.LineTests.{same_is}
use Rattle.certificate.proofs.LineWords.{cut_words}
use Rattle.certificate.proofs.NumberLines.{no_name, other_name, other_count}
use Rattle.certificate.proofs.lines.behind_name.Goals as goal

pub returns-in_default-clause-none : goal.returns-in_default-clause-none
returns-in_default-clause-none c least most = grind (arith, no_name)

pub returns-then-ne-clause-none : goal.returns-then-ne-clause-none
returns-then-ne-clause-none c least most = grind (arith, other_name)

pub returns-then-count_words-count-clause-none : goal.returns-then-count_words-count-clause-none
returns-then-count_words-count-clause-none c least most = grind (arith, other_count)

pub returns-clause-some : goal.returns-clause-some
returns-clause-some c =
    let is : same c.in-Some.word.now c.args.name.now ≡ true = search rules in let counted = c.count_words.ensures in (
      cut_words c.args.line.now c.in-Some.word.now c.in-Some.rest.now c.in-Some.ensures.some
          ∙ ap (λ w. w ∷ words c.in-Some.rest.now) (same_is c.in-Some.word.now c.args.name.now is),
      omega arith,
    )
