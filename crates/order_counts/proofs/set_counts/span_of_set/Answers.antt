use Rattle.std.proofs.Common.{◌+◌, ◌-◌, ◌^◌, ◌<◌, [], get_or, length, slice_index, slice_index_or, sym, ap, ◌∙◌, subst, arith}
use Rattle.std.proofs.lemmas.Bool.{iff_false}
use Rattle.std.proofs.lemmas.Nat.{one_shl}
use Rattle.order_counts.specs.Sizes.{Covers, CoversAll}
use Rattle.order_counts.proofs.CountsBelow.{covers_lacking, covers_with, raised_small, same_entry}
use Rattle.order_counts.proofs.set_counts.span_of_set.Goals as goal
use Rattle.order_counts.proofs.set_counts.span_of_set.Goals.{then-contains, else-contains}

pub cover-span-requires : goal.cover-span-requires
cover-span-requires c =
    let few = c.inputs-x-end.ensures.kept.few in
    let small : c.loop-x.x < c.args.given.pairs.now.inputs = omega (arith, c.loop-x-test.true, c.inputs-x-end.ensures.value) in
    let power = one_shl c.loop-x.x 16 (omega (arith, small, few)) in
    let entry = c.index-smaller-set.is ∙ ap (λ k. slice_index_or c.args.smaller.now (c.args.set - k) c.index-smaller-set.result) power in
    subst (λ s. s.least + length s.orders.items + slice_index (get_or c.args.given.widths.now c.args.set []) c.loop-x.x < 2 ^ 32) (sym entry)
    (raised_small c.args.given c.requires.given c.args.set few c.requires.within c.args.smaller.now c.requires.smaller c.loop-x.x
    c.index-smaller-set.result small (c.contains.ensures.0 c.if-contains.true))

pub loop-x-preserved : goal.loop-x-preserved
loop-x-preserved c =
    let given = c.args.given in
    let counts = c.args.smaller.now in
    let set = c.args.set in
    let x = c.loop-x.x in
    let few = c.inputs-x-end.ensures.kept.few in
    let small : c.loop-x.x < c.args.given.pairs.now.inputs = omega (arith, c.loop-x-test.true, c.inputs-x-end.ensures.value) in
    let power = one_shl c.loop-x.x 16 (omega (arith, small, few)) in
    elim c.if-contains.branch [
      | then-contains w ↦
          let first = w.index-smaller-set.result in
          let entry = w.index-smaller-set.is ∙ ap (λ k. slice_index_or counts (set - k) first) power in
          let row = slice_index (get_or given.widths.now set []) x in
          subst (CoversAll given counts set (x + 1)) (sym w.span-is)
          (covers_with given counts set x c.loop-x.span c.loop-x.invariant w.cover-span.result
          (λ s. subst (λ t. Covers w.cover-span.result t row)
          (entry ∙ same_entry given.pairs.now.inputs set x counts s first c.requires.smaller.each c.requires.within) w.cover-span.ensures.covers)
          w.cover-span.ensures.keeps)
      | else-contains w ↦
          subst (CoversAll given counts set (x + 1)) (sym w.span-is)
          (covers_lacking given counts set x c.loop-x.span c.loop-x.invariant (iff_false c.contains.ensures w.if-contains.false))
    ]
