use Rattle.std.proofs.Common.{sym, arith}
use Rattle.definitions.proofs.Precedence.Texts.{number_digit, number_teen, number_refused}
use Rattle.order_model.proofs.pairs.number.Goals as goal

pub returns-in-48-to-57 : goal.returns-in-48-to-57
returns-in-48-to-57 c = sym (number_digit c.args.word.now (omega arith) (omega arith) (omega arith))

pub returns-in-49 : goal.returns-in-49
returns-in-49 c = sym (number_teen c.args.word.now (omega arith) (omega arith) (omega arith) (omega arith))

pub returns-in_default : goal.returns-in_default
returns-in_default c = sym (number_refused c.args.word.now (λ one low high. omega arith) (λ two ten low high. omega arith))

pub returns-in_default-2 : goal.returns-in_default-2
returns-in_default-2 c = sym (number_refused c.args.word.now (λ one low high. omega arith) (λ two ten low high. omega arith))

pub returns-in_default-3 : goal.returns-in_default-3
returns-in_default-3 c = sym (number_refused c.args.word.now (λ one low high. omega arith) (λ two ten low high. omega arith))

pub returns-in_default-4 : goal.returns-in_default-4
returns-in_default-4 c = sym (number_refused c.args.word.now (λ one low high. omega arith) (λ two ten low high. omega arith))

pub returns-in_default-5 : goal.returns-in_default-5
returns-in_default-5 c = sym (number_refused c.args.word.now (λ one low high. omega arith) (λ two ten low high. omega arith))

pub returns-in_default-6 : goal.returns-in_default-6
returns-in_default-6 c = sym (number_refused c.args.word.now (λ one low high. omega arith) (λ two ten low high. omega arith))

pub returns-in_default-7 : goal.returns-in_default-7
returns-in_default-7 c = sym (number_refused c.args.word.now (λ one low high. omega arith) (λ two ten low high. omega arith))
