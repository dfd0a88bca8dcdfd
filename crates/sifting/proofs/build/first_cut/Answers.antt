use Rattle.std.proofs.Common.{◌^◌, arith}
use Rattle.definitions.proofs.Nodes.Paths.{before_more}
use Rattle.sifting.proofs.build.first_cut.Goals as goal

pub number_roots-requires-clause-inside : goal.number_roots-requires-clause-inside
number_roots-requires-clause-inside c =
    let small = c.requires.small in λ k d lt. before_more c.args.size (2 ^ 32) _ (omega arith) (c.requires.inside k d lt)

pub returns : goal.returns
returns c = grind arith
