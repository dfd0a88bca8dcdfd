use Rattle.std.proofs.Common.{◌^◌, get_or, length, map, sym, ap, ◌∙◌, subst}
use Rattle.subfunction_classes.specs.Dependence.{joined_mask}
use Rattle.subfunction_classes.specs.Places as places
use Rattle.pair_numbering.specs.Numbers.{ArePairsBelow}
use Rattle.subfunction_classes.proofs.DistinctPairs.{met_classes, masks_many, masks_told}
use Rattle.pair_numbering.proofs.memory.PairMemory.write_numbers.Goals as goal

pub join_masks-requires-clause-classes : goal.join_masks-requires-clause-classes
join_masks-requires-clause-classes c =
    let n = c.in_ok-number.ensures in
    subst (λ us. ArePairsBelow us (length c.args.pairs.now.masks.now)) (sym c.deref.ensures.value)
    (met_classes c.args.pairs.now.entries.numbers c.args.pairs.now.entries.rank (length c.args.pairs.now.masks.now)
    c.rank.ensures.paired.whole c.args.pairs.now.below
    c.number.new.numbers.items c.number.new.self.pairs.items n.numbered_are n.many n.labels)

pub returns : goal.returns
returns c =
    let ps = places.pairs c.args.pairs.now.entries.numbers (2 ^ c.args.pairs.now.entries.rank) in
    let join = joined_mask c.args.pairs.now.masks.now c.args.pairs.now.x in
    let numbers = c.number.new.numbers.items in
    let pairs = c.number.new.self.pairs.items in
    let n = c.in_ok-number.ensures in
    let joined = c.in_ok-join_masks.ensures ∙ ap (map join) c.deref.ensures.value in
    record {
      numbers_are = n.numbered_are;
      many = ap length joined ∙ masks_many ps numbers pairs n.numbered_are n.many n.labels join;
      labels = ap (λ us. map (λ k. get_or us k 0) numbers) joined ∙ masks_told ps numbers pairs n.numbered_are n.many n.labels join;
    }
