use Rattle.std.proofs.Common.{length, sym, ap, ◌∙◌, below_more}
use Rattle.definitions.proofs.Bits.Problems.{length-table_in}
use Rattle.sifting.proofs.laws.tables_have_all_points.Goals as goal

pub loop-output-preserved : goal.loop-output-preserved
loop-output-preserved c =
    below_more _ _ c.loop-output.invariant
    (sym (ap length c.words-words.ensures.table) ∙ length-table_in c.args.problem.now.inputs c.words-words.result.now)
