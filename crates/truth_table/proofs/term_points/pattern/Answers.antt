use Rattle.std.proofs.Common.{◌&&◌, sym, ◌∙◌}
use Rattle.truth_table.specs.Terms.{literals_at}
use Rattle.truth_table.proofs.TermWords.{all_ones, masked_bits, literals_more}
use Rattle.truth_table.proofs.term_points.pattern.Goals as goal

pub loop-x-init : goal.loop-x-init
unfolding literals_at
loop-x-init c = λ b h. all_ones b h

pub loop-x-preserved : goal.loop-x-preserved
loop-x-preserved c = λ b h.
    masked_bits c.loop-x.points c.literal_points-points.result b ∙ (λ i. c.loop-x.invariant b h i && c.literal_points-points.ensures b h i)
    ∙ sym (literals_more c.args.term b c.loop-x.x)
