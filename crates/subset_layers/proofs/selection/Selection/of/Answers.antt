use Rattle.std.proofs.Common.{◌≡◌, length, vec_len, arith}
use Rattle.subset_layers.proofs.ChosenNumbers.{choosing_no, choosing_yes, choosing_all}
use Rattle.subset_layers.proofs.selection.Selection.of.Goals as goal
use Rattle.subset_layers.proofs.selection.Selection.of.Goals.{then-is_chosen+in_ok-push, else-is_chosen}

pub loop-number-preserved : goal.loop-number-preserved
loop-number-preserved c =
    elim c.if-is_chosen.branch [
      | then-is_chosen+in_ok-push w ↦
          rw (
            w.numbers-is,
            w.places-is,
            w.in_ok-push.ensures.items,
            w.len.ensures,
            let e : vec_len c.loop-number.numbers ≡ length c.loop-number.numbers.items =
                omega arith in e,
          )
          (choosing_yes c.args.flags.now c.loop-number.number c.loop-number.numbers.items c.loop-number.places.items w.if-is_chosen.true (omega arith)
          c.loop-number.invariant)
      | else-is_chosen w ↦
          rw (
            w.numbers-is,
            w.places-is,
          )
          (choosing_no c.args.flags.now c.loop-number.number c.loop-number.numbers.items c.loop-number.places.items w.if-is_chosen.false
          c.loop-number.invariant)
    ]

pub returns : goal.returns
returns c = grind (arith, choosing_all)
