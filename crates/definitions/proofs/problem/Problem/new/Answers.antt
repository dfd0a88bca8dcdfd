use Rattle.std.proofs.Common.{◌≡◌, ◌*◌, replicate, ap, ◌∙◌, rules, arith}
use Rattle.definitions.specs.Problems.{tables_of}
use Rattle.definitions.proofs.Bits.Problems.{tables_of_zeros}
use Rattle.std.proofs.lemmas.Grind.{common_steps}
use Rattle.definitions.proofs.problem.Problem.new.Goals as goal

pub returns-clause-tables : goal.returns-clause-tables
returns-clause-tables c =
    let e : c.in_ok-words.words.items ≡ replicate (c.args.m * c.words_per_table.result) 0 = search rules in
    ap (tables_of c.args.n c.args.m) (e ∙ ap (λ z. replicate (c.args.m * z) 0) c.words_per_table.ensures.value) ∙ tables_of_zeros c.args.n c.args.m

pub invariant_of-result : goal.invariant_of-result
invariant_of-result c = grind (arith, common_steps)
