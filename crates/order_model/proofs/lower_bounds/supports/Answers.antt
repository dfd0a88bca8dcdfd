use Rattle.std.proofs.Common.{◌∙◌, arith}
use Rattle.std.proofs.lemmas.List.{length-set}
use Rattle.definitions.proofs.Bits.LowerBounds.{supports_next, supports_all}
use Rattle.order_model.proofs.lower_bounds.supports.Goals as goal

pub loop-output-preserved : goal.loop-output-preserved
loop-output-preserved c = record {
  long = length-set c.loop-output.found c.loop-output.output c.support.result ∙ c.loop-output.invariant.long;
  found = supports_next c.args.problem.now c.loop-output.found c.loop-output.output c.support.result (omega arith) (omega arith) c.support.ensures
      c.loop-output.invariant.found;
}

pub returns : goal.returns
returns c =
    supports_all c.args.problem.now c.loop-output.found c.loop-output.output (omega arith) c.loop-output.invariant.found
