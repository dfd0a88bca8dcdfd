use Rattle.symmetries.proofs.PointValues.{tell_more}
use Rattle.symmetries.proofs.points.values_by_point.Goals as goal

pub loop-output-preserved : goal.loop-output-preserved
loop-output-preserved c =
    tell_more c.args.problem.now c.loop-output.output c.loop-output.values.items c.append_bits.new.values.items c.words.result.now c.loop-output.invariant
    c.append_bits.ensures.long c.words.ensures.table c.append_bits.ensures.each
