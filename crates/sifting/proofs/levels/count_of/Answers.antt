use Rattle.std.proofs.Common.{arith, ◌∙◌, ap, ◌+◌, sym}
use Rattle.std.proofs.lemmas.List.{length-take}
use Rattle.sifting.proofs.BranchingNodes.{branching_none, branching_more_yes, branching_more_no, branching_few, branching_all}
use Rattle.sifting.proofs.levels.count_of.Goals as goal
use Rattle.sifting.proofs.levels.count_of.Goals.{then-low-high, else-low-high}

pub loop-low-init : goal.loop-low-init
loop-low-init c = branching_none

pub overflow_add-count : goal.overflow_add-count
overflow_add-count c = grind (arith, branching_few, length-take)

pub loop-low-preserved : goal.loop-low-preserved
loop-low-preserved c =
    elim c.if-low-high.branch [
      | then-low-high w ↦ w.count-is ∙ ap (λ m. m + 1) c.loop-low.invariant
          ∙ sym (branching_more_yes c.args.nodes.now c.loop-low.low-index c.loop-low-test.true w.if-low-high.true)
      | else-low-high w ↦ w.count-is ∙ c.loop-low.invariant
          ∙ sym (branching_more_no c.args.nodes.now c.loop-low.low-index c.loop-low-test.true w.if-low-high.false)
    ]

pub returns : goal.returns
returns c = c.loop-low.invariant ∙ branching_all c.args.nodes.now c.loop-low.low-index c.loop-low-test.false
