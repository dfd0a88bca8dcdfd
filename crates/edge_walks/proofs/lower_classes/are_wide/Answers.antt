use Rattle.std.proofs.Common.{◌≤◌, ◌^◌, eqb, inl, inr, length, get_or, ap, subst, ◌∙◌, arith, rules}
use Rattle.std.specs.Int.{bit_at}
use Rattle.std.specs.List.{filter}
use Rattle.std.proofs.lemmas.Bool.{cases_lt}
use Rattle.subfunction_classes.specs.Places as places
use Rattle.edge_walks.specs.LowerClasses.{pairs_with}
use Rattle.edge_walks.proofs.LowerMarks.{told_le}
use Rattle.edge_walks.proofs.lower_classes.are_wide.Goals as goal
use Rattle.std.proofs.lemmas.Grind.{common_steps}
use Rattle.edge_walks.proofs.lower_classes.are_wide.Goals.{else-needed-y-gt0-via-then-needed-y-gt0+else-count_with-needed, else-needed-y-gt0-via-else-needed-y-gt0}

pub loop-y-preserved : goal.loop-y-preserved
loop-y-preserved c y l =
    let ps = places.pairs c.args.numbers.now (2 ^ c.args.x) in
    let here : get_or c.args.needed.now c.loop-y.y 0 ≤ pairs_with c.args.masks.now c.args.x c.loop-y.y ps =
    elim c.else-needed-y-gt0.branch [
      | else-needed-y-gt0-via-then-needed-y-gt0+else-count_with-needed w ↦
          let t = told_le c.args.masks.now c.args.x ps c.in_ok-labels.labels.items c.loop-y.y c.in_ok-labels.ensures.labels in
          omega (arith, w.count_with.ensures ∙ ap (λ ms. length (filter (λ m. eqb (bit_at m c.loop-y.y) 1) ms)) w.deref.ensures.value)
      | else-needed-y-gt0-via-else-needed-y-gt0 w ↦ omega arith
    ] in
    elim (cases_lt y c.loop-y.y) [
      | inl before ↦ c.loop-y.invariant y before
      | inr same ↦
          subst (λ k. get_or c.args.needed.now k 0 ≤ pairs_with c.args.masks.now c.args.x k ps) (omega arith) here
    ]

pub returns-then-count_with-needed : goal.returns-then-count_with-needed
returns-then-count_with-needed c y l = search rules

pub returns : goal.returns
returns c y l = grind (arith, common_steps)
