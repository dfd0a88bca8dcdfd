use Rattle.std.proofs.Common.{arith}
use Rattle.definitions.specs.Problems.{packed_tables}
use Rattle.definitions.proofs.Bits.Problems.{length-tables_of}
use Rattle.small_search.proofs.PlainSearches.{plain}
use Rattle.small_search.proofs.instance.SmallSearch.new.Goals as goal

pub invariant_of-result : goal.invariant_of-result
invariant_of-result c =
    let h = c.requires.packed in
    let l = length-tables_of c.args.inputs c.args.outputs c.args.words.now in
    record {
      packed = h;
      plain = plain (packed_tables c.args.inputs c.args.outputs c.args.words.now) c.args.pairs.now c.requires.pairs c.inputs.ensures.kept h.few_inputs
          (let m = h.few_outputs in omega (arith, l, m));
    }
