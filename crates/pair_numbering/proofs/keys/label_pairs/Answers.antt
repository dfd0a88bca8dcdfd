use Rattle.std.proofs.Common.{◌^◌, arith}
use Rattle.subfunction_classes.specs.Places as places
use Rattle.subfunction_classes.proofs.Index.{length-pairs}
use Rattle.pair_numbering.proofs.Names.{names_joined, names_numbered, ranks_used}
use Rattle.pair_numbering.proofs.keys.label_pairs.Goals as goal

pub returns-then-base-len : goal.returns-then-base-len
returns-then-base-len c = grind (arith, names_joined)

pub returns : goal.returns
returns c = grind (arith, names_numbered, length-pairs)

pub invariant_of-result-2 : goal.invariant_of-result-2
invariant_of-result-2 c = record {
  used = λ e. ranks_used c.args.pairs.now.masks.now c.args.pairs.now.x
      (places.pairs c.args.pairs.now.entries.numbers (2 ^ c.args.pairs.now.entries.rank))
      c.in_ok-numbered.numbered.numbers.items c.in_ok-numbered.numbered.masks.items c.in_ok-numbered.ensures;
}
