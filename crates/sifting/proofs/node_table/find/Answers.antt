use Rattle.std.proofs.Common.{◌≢◌, get_or, inl, inr, ap, ◌∙◌, arith}
use Rattle.std.proofs.lemmas.Bool.{cases_eq}
use Rattle.sifting.specs.Leveled.{Children, at}
use Rattle.sifting.proofs.node_table.find.Goals as goal
use Rattle.sifting.proofs.node_table.find.Goals.{else-nodes-number-via-then-nodes-number+else-nodes-number-2, else-nodes-number-via-else-nodes-number}

pub loop-at-preserved : goal.loop-at-preserved
loop-at-preserved c =
    let differs : at c.args.nodes.now c.in-Some.number ≢ c.args.node =
    elim c.else-nodes-number.branch [
      | else-nodes-number-via-then-nodes-number+else-nodes-number-2 w ↦ λ e. w.if-nodes-number-2.false (ap (λ (n : Children). n.1) e)
      | else-nodes-number-via-else-nodes-number w ↦ λ e. w.if-nodes-number.false (ap (λ (n : Children). n.0) e)
    ] in
    λ t a b. elim (cases_eq t c.loop-at.at) [
      | inl e ↦ (c.in-Some.number, (c.in-Some.ensures.some.0, ap (λ u. get_or c.args.slots.now u 0) e ∙ c.in-Some.ensures.some.1), differs)
      | inr ne ↦ c.loop-at.invariant t a (omega arith)
    ]
