use Rattle.std.proofs.Common.{◌+◌, List, sym, ap, ◌∙◌, length, subst, arith}
use Rattle.std.specs.List.{position_or_len}
use Rattle.definitions.specs.Widths.{same_pair}
use Rattle.truth_table.specs.declared.levels.NumberedNode.{NumberedNode}
use Rattle.truth_table.specs.Levels.{SeeksAmong, children_from}
use Rattle.truth_table.proofs.NumberedNodes.{node_at, node_past}
use Rattle.truth_table.proofs.levels.compared_number.Goals as goal
use Rattle.truth_table.proofs.levels.compared_number.Goals.{then-place-len+in_ok-push, else-place-len}

pub returns : goal.returns
returns c =
    let base = c.args.base in
    let x = c.args.x in
    let u = c.args.children in
    let before = c.args.nodes.now.items in
    let place = c.place_of-place.result in
    let at = c.place_of-place.ensures.place
    ∙ ap (λ ns. base + position_or_len (same_pair u) (children_from base ns)) c.deref.ensures.value in
    let len = ap length c.deref.ensures.value in
    elim c.if-place-len.branch [
      | then-place-len+in_ok-push w ↦
          subst (λ (ns : List NumberedNode). SeeksAmong base x u before ns (place + 2)) (sym (ap (λ v. v.items) w.nodes-is ∙ w.in_ok-push.ensures.items))
          (node_past base x u before place c.requires.unequal c.requires.base at (omega arith))
      | else-place-len w ↦
          subst (λ (ns : List NumberedNode). SeeksAmong base x u before ns (place + 2)) (sym (ap (λ v. v.items) w.nodes-is))
          (node_at base x u before place c.requires.unequal c.requires.base at (omega (arith, c.place_of-place.ensures.within)))
    ]

pub overflow_cast-result : goal.overflow_cast-result
overflow_cast-result c = let len = ap length c.deref.ensures.value in omega (arith, c.place_of-place.ensures.within)

pub overflow_add-result : goal.overflow_add-result
overflow_add-result c = let len = ap length c.deref.ensures.value in omega (arith, c.place_of-place.ensures.within)
