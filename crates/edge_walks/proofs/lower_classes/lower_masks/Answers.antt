use Rattle.std.proofs.Common.{ℕ, ◌<◌, ◌/◌, ◌^◌, bit_or, length, set, refl, sym, ap, subst, ◌∙◌, arith}
use Rattle.std.proofs.lemmas.List.{length-set, get_or_default}
use Rattle.subfunction_classes.specs.Places as places
use Rattle.subfunction_classes.proofs.Index.{length-pairs, pair_listed}
use Rattle.subfunction_classes.proofs.JoinedMasks.{pair_classes}
use Rattle.edge_walks.specs.LowerClasses.{AreLowerMasks}
use Rattle.edge_walks.proofs.LowerMarks.{one_told}
use Rattle.std.proofs.lemmas.Grind.{common_steps}
use Rattle.edge_walks.proofs.lower_classes.lower_masks.Goals as goal

pub loop-j-preserved : goal.loop-j-preserved
loop-j-preserved c =
    let ps = places.pairs c.args.numbers.now (2 ^ c.args.x) in
    let j = c.loop-j.j in
    let n = c.len-j-end.ensures.count in
    let t = c.of_table-pairs.ensures in
    let e = ap length t.numbers in
    let test = c.loop-j-test.true in
    let small : j < length c.args.numbers.now / 2 = omega (arith, n, e, test) in
    let labels = c.loop-j.labels.items in
    let lower = c.pair-pair.result.0 in
    let l = length-pairs c.args.numbers.now (2 ^ c.args.x) in
    let rank = t.rank ∙ c.from.ensures in
    let pair = c.pair-pair.ensures ∙ (λ i. places.pair_at (t.numbers i) (2 ^ rank i) j) in
    let is = pair_listed c.args.numbers.now (2 ^ c.args.x) j small ∙ sym pair in
    let same = ap (λ (p : ℕ × ℕ). p.0) pair in
    let long = c.loop-j.invariant.long in
    let within : lower < length labels = omega arith in
    record {
      long = length-set labels _ _ ∙ c.loop-j.invariant.long;
      labels = subst (λ k. AreLowerMasks c.args.masks.now c.args.x ps (set labels lower (bit_or c.index_mut.result.now k))) (sym c.join_mask.ensures)
          (one_told c.args.masks.now c.args.x ps labels j lower c.index_mut.result.now c.pair-pair.result (omega arith) within is refl
          (c.index_mut.ensures.value ∙ sym (get_or_default labels lower 0 c.index_mut.result.now within)) c.loop-j.invariant.labels);
    }

pub join_mask-requires-clause-upper : goal.join_mask-requires-clause-upper
join_mask-requires-clause-upper c =
    let n = c.len-j-end.ensures.count in
    let t = c.of_table-pairs.ensures in
    let e = ap length t.numbers in
    let test = c.loop-j-test.true in
    let rank = t.rank ∙ c.from.ensures in
    let pair = c.pair-pair.ensures ∙ (λ i. places.pair_at (t.numbers i) (2 ^ rank i) c.loop-j.j) in
    subst (λ (p : ℕ × ℕ). p.1 < length c.args.masks.now) (sym pair)
    (pair_classes c.args.numbers.now c.args.x (length c.args.masks.now) c.loop-j.j c.requires.paired.whole c.requires.below (omega (arith, n, e, test))).1

pub loop-j-init : goal.loop-j-init
loop-j-init c = grind (arith, common_steps)
