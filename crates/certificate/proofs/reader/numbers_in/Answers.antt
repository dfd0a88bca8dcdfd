use Rattle.std.proofs.Common.{◌∙◌, arith}
use Rattle.certificate.specs.Faults.{is_decimal}
use Rattle.certificate.proofs.NumberLines.{cut_passes, cut_fails, last_passes, last_fails, cut_numbers, last_number, refused_on}
use Rattle.std.proofs.lemmas.Grind.{common_steps}
use Rattle.certificate.proofs.reader.numbers_in.Goals as goal

pub returns-in_err-push_number-clause-refused : goal.returns-in_err-push_number-clause-refused
returns-in_err-push_number-clause-refused c =
    refused_on c.from_residual.result _ c.args.line (is_decimal 0 c.args.most c.in-Some.word.now) _ c.from_residual.ensures.1
    c.in_err-push_number.ensures.refused
    (λ no. c.loop-word.invariant.passes
    ∙ cut_fails (is_decimal 0 c.args.most) c.loop-word.rest.now c.in-Some.word.now c.in-Some.more.now c.in-Some.ensures.some no)

pub loop-word-preserved : goal.loop-word-preserved
loop-word-preserved c = record {
  numbers = cut_numbers c.loop-word.numbers.items c.push_number.new.numbers.items c.loop-word.rest.now c.in-Some.word.now c.in-Some.more.now
      c.in-Some.ensures.some c.in_ok-push_number.ensures.added
      ∙ c.loop-word.invariant.numbers;
  passes = c.loop-word.invariant.passes
      ∙ cut_passes (is_decimal 0 c.args.most) c.loop-word.rest.now c.in-Some.word.now c.in-Some.more.now c.in-Some.ensures.some
      c.in_ok-push_number.ensures.passes;
}

pub returns-in_err-push_number-2-clause-refused : goal.returns-in_err-push_number-2-clause-refused
returns-in_err-push_number-2-clause-refused c =
    refused_on c.from_residual-in_err-push_number-2.result _ c.args.line (is_decimal 0 c.args.most c.loop-word.rest.now) _
    c.from_residual-in_err-push_number-2.ensures.1 c.in_err-push_number-2.ensures.refused
    (λ no. c.loop-word.invariant.passes ∙ last_fails (is_decimal 0 c.args.most) c.loop-word.rest.now c.in_default.ensures.none no)

pub returns-clause-numbers : goal.returns-clause-numbers
returns-clause-numbers c =
    last_number c.loop-word.numbers.items c.push_number-2.new.numbers.items c.loop-word.rest.now c.in_default.ensures.none
    c.in_ok-push_number-2.ensures.added
    ∙ c.loop-word.invariant.numbers

pub returns-clause-passes : goal.returns-clause-passes
returns-clause-passes c = c.loop-word.invariant.passes
    ∙ last_passes (is_decimal 0 c.args.most) c.loop-word.rest.now c.in_default.ensures.none c.in_ok-push_number-2.ensures.passes

pub loop-word-smaller : goal.loop-word-smaller
loop-word-smaller c = grind (arith, common_steps)
