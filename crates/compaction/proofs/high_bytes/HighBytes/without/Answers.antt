use Rattle.std.proofs.Common.{◌∙◌, arith}
use Rattle.std.proofs.lemmas.List.{length-set}
use Rattle.compaction.proofs.HighBytes.{byte_without}
use Rattle.compaction.proofs.high_bytes.HighBytes.without.Goals as goal

pub loop-i-preserved : goal.loop-i-preserved
loop-i-preserved c = record {
  four = length-set c.loop-i.words c.loop-i.i _ ∙ c.loop-i.invariant.four;
  kept = λ h small there bit.
      let four = c.loop-i.invariant.four in
      let few = c.loop-i-test.true in
      byte_without c.loop-i.words c.loop-i.i c.args.y c.bits_without.result h (omega arith) c.bits_without.ensures bit
      (c.loop-i.invariant.kept h small there bit);
}

pub returns : goal.returns
returns c = grind arith
