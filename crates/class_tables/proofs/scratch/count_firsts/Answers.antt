use Rattle.std.proofs.Common.{◌+◌, ◌/◌, ◌<◌, ◌^◌, get_or, length, sym, ap, ◌∙◌, subst, arith}
use Rattle.subfunction_classes.specs.Numbering.{IsFirstOccurrence}
use Rattle.subfunction_classes.specs.Dependence.{joined_mask}
use Rattle.subfunction_classes.specs.Places as places
use Rattle.class_tables.proofs.CountedFirsts.{Counting, counting_first, counting_again, counting_all}
use Rattle.subfunction_classes.proofs.Index.{first_listed, pair_listed, length-pairs}
use Rattle.pair_numbering.proofs.InBlocks.{pair_inside}
use Rattle.class_tables.proofs.scratch.count_firsts.Goals as goal
use Rattle.class_tables.proofs.scratch.count_firsts.Goals.{then-f-j, else-f-j}

pub loop-j-preserved : goal.loop-j-preserved
loop-j-preserved c =
    let cs = c.args.pairs.now.entries.numbers in
    let masks = c.args.pairs.now.masks.now in
    let x = c.args.pairs.now.x in
    let step = 2 ^ c.args.pairs.now.entries.rank in
    let ps = places.pairs cs step in
    let j = c.loop-j.j in
    let lp = length-pairs cs step in
    let small : j < length cs / 2 = omega arith in
    let listed : j < length ps = omega arith in
    let first = first_listed cs step j (get_or c.args.first.now j 0) small (c.requires.first.each j small) in
    elim c.if-f-j.branch [
      | then-f-j w ↦
          let m = w.join_mask-mask.ensures ∙ ap (joined_mask masks x) (w.pair.ensures ∙ sym (pair_listed cs step j small)) in
          subst (λ k. Counting ps masks x k (j + 1)) (sym w.count-is)
          (counting_first ps masks x c.loop-j.count w.from-count.result j w.join_mask-mask.result listed
          (subst (IsFirstOccurrence (λ i. get_or ps i (0, 0)) j) w.if-f-j.true first) m (grind arith) c.loop-j.invariant)
      | else-f-j w ↦
          subst (λ k. Counting ps masks x k (j + 1)) (sym w.count-is)
          (counting_again ps masks x c.loop-j.count j (get_or c.args.first.now j 0) listed first (omega arith) c.loop-j.invariant)
    ]

pub returns : goal.returns
returns c =
    let cs = c.args.pairs.now.entries.numbers in
    let step = 2 ^ c.args.pairs.now.entries.rank in
    counting_all (places.pairs cs step) c.args.pairs.now.masks.now c.args.pairs.now.x c.loop-j.count c.loop-j.j (omega (
      arith,
      length-pairs cs step,
    )) c.loop-j.invariant

pub join_mask-mask-requires-clause-upper : goal.join_mask-mask-requires-clause-upper
join_mask-mask-requires-clause-upper c =
    (pair_inside c.rank.ensures.paired c.args.pairs.now.below (subst (λ n. c.loop-j.j < n) c.requires.first.long c.loop-j-test.true) c.pair.ensures).1
