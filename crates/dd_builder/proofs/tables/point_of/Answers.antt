use Rattle.std.proofs.Common.{refl, arith}
use Rattle.dd_builder.proofs.Pathways.{point_more, variable_below}
use Rattle.dd_builder.proofs.tables.point_of.Goals as goal

pub overflow_shl-point : goal.overflow_shl-point
overflow_shl-point c = omega (arith, variable_below c.args.order.now c.requires.order c.loop-level.level c.loop-level-test.true)

pub loop-level-preserved : goal.loop-level-preserved
loop-level-preserved c =
    point_more c.args.order.now c.requires.order c.loop-level.level c.args.path c.loop-level.point _ _ c.requires.few c.loop-level-test.true
    refl c.loop-level.invariant refl
