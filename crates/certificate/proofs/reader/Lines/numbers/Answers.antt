use Rattle.certificate.proofs.Outcomes.{missing, stop}
use Rattle.certificate.proofs.NumberLines.{asked_numbers}
use Rattle.certificate.specs.declared.faults.LineFault.TheVariants.{BadLine}
use Rattle.certificate.proofs.reader.Lines.numbers.Goals as goal

pub returns-in_default-clause-line : goal.returns-in_default-clause-line
returns-in_default-clause-line c js = missing c.args.self.now.number _ js c.args.self.now.rest.now c.in_default.ensures.none

pub returns-in_default-behind_name-clause-line : goal.returns-in_default-behind_name-clause-line
returns-in_default-behind_name-clause-line c js =
    stop c.args.self.now.number _ js c.args.self.now.rest.now c.in-Some.line.now c.next.new.self.rest.now BadLine
    c.in-Some.ensures.line (c.in_default-behind_name.ensures.none 0 c.args.most)

pub returns-clause-line : goal.returns-clause-line
returns-clause-line c =
    asked_numbers (λ v. v.items) c.args.name.now c.args.count c.args.most c.args.self.now.number c.next.new.self.number
    c.args.self.now.rest.now c.in-Some.line.now c.next.new.self.rest.now c.in-Some-behind_name.digits.now c.numbers_in.result
    c.in-Some.ensures.line c.in-Some.ensures.number c.in-Some-behind_name.ensures.some.0 c.in-Some-behind_name.ensures.some.1 c.numbers_in.ensures.numbers
    c.numbers_in.ensures.passes c.numbers_in.ensures.refused
