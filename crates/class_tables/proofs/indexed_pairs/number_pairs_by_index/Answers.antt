use Rattle.std.proofs.Common.{◌^◌, get_or, length, map, sym, ap, ◌∙◌, subst}
use Rattle.subfunction_classes.specs.Dependence.{joined_mask}
use Rattle.subfunction_classes.specs.Places as places
use Rattle.pair_numbering.specs.Numbers.{ArePairsBelow}
use Rattle.subfunction_classes.proofs.DistinctPairs.{met_classes, masks_many, masks_told}
use Rattle.class_tables.proofs.indexed_pairs.number_pairs_by_index.Goals as goal

pub join_masks-requires-clause-classes : goal.join_masks-requires-clause-classes
join_masks-requires-clause-classes c =
    let p = c.args.pairs.now in
    let n = c.in_ok-indexed.ensures in
    subst (λ us. ArePairsBelow us (length p.masks.now)) (sym c.deref.ensures.value)
    (met_classes p.entries.numbers p.entries.rank (length p.masks.now) c.rank.ensures.paired.whole p.below
    c.in_ok-indexed.indexed.numbers.items c.in_ok-indexed.indexed.pairs.items n.numbered_are n.many n.labels)

pub returns : goal.returns
returns c =
    let p = c.args.pairs.now in
    let ps = places.pairs p.entries.numbers (2 ^ p.entries.rank) in
    let join = joined_mask p.masks.now p.x in
    let numbers = c.in_ok-indexed.indexed.numbers.items in
    let distinct = c.in_ok-indexed.indexed.pairs.items in
    let n = c.in_ok-indexed.ensures in
    let joined = c.in_ok-join_masks.ensures ∙ ap (map join) c.deref.ensures.value in
    record {
      numbers_are = n.numbered_are;
      many = ap length joined ∙ masks_many ps numbers distinct n.numbered_are n.many n.labels join;
      labels = ap (λ us. map (λ k. get_or us k 0) numbers) joined ∙ masks_told ps numbers distinct n.numbered_are n.many n.labels join;
    }
