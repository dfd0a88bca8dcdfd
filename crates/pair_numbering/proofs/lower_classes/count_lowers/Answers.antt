use Rattle.std.proofs.Common.{◌≡◌, ℕ, ◌+◌, ◌*◌, ◌^◌, get_or, length, set, sym, ap, subst, ◌∙◌, arith}
use Rattle.subfunction_classes.specs.Places.{pairs}
use Rattle.subfunction_classes.proofs.BlockPlaces.{listed_classes}
use Rattle.subfunction_classes.proofs.Index.{length-pairs}
use Rattle.pair_numbering.specs.LowerClasses.{Counted}
use Rattle.pair_numbering.proofs.InBlocks.{all_pairs, in_block, listed_inside}
use Rattle.pair_numbering.proofs.SlotSteps.{counted_all, counted_step}
use Rattle.pair_numbering.proofs.lower_classes.count_lowers.Goals as goal
use Rattle.pair_numbering.proofs.lower_classes.count_lowers.Goals.{then-counts-lower-eq0, else-counts-lower-eq0}

pub bounds-counts-lower : goal.bounds-counts-lower
bounds-counts-lower c =
    let w = in_block c.rank-rank.ensures.paired c.len-2.ensures.count c.rank-rank.ensures.rank c.block.ensures.low_len
    c.loop-block-test.true c.loop-i-test.true in
    let e = ap (λ (p : ℕ × ℕ). p.0) (c.block.ensures.pairs c.loop-i.i w.early) in
    let s = listed_classes c.args.entries.now.numbers c.args.entries.now.rank (length c.args.counts.now) _ c.requires.table.paired.whole
    c.requires.table.below (listed_inside c.rank-rank.ensures.paired w) in
    let below = s.0 in
    let long = c.loop-i.auto.counts in
    omega arith

pub bounds-counts-lower-in-loop-i : goal.bounds-counts-lower-in-loop-i
bounds-counts-lower-in-loop-i c =
    let w = in_block c.rank-rank.ensures.paired c.len-2.ensures.count c.rank-rank.ensures.rank c.block.ensures.low_len
    c.loop-block-test.true c.loop-i-test.true in
    let e = ap (λ (p : ℕ × ℕ). p.0) (c.block.ensures.pairs c.loop-i.i w.early) in
    let s = listed_classes c.args.entries.now.numbers c.args.entries.now.rank (length c.args.counts.now) _ c.requires.table.paired.whole
    c.requires.table.below (listed_inside c.rank-rank.ensures.paired w) in
    let below = s.0 in
    let long = c.loop-i.auto.counts in
    omega arith

pub loop-i-preserved : goal.loop-i-preserved
loop-i-preserved c =
    let cs = c.args.entries.now.numbers in
    let rank = c.args.entries.now.rank in
    let ps = pairs cs (2 ^ rank) in
    let counts = c.loop-i.counts in
    let j = c.loop-block.block * 2 ^ rank + c.loop-i.i in
    let w = in_block c.rank-rank.ensures.paired c.len-2.ensures.count c.rank-rank.ensures.rank c.block.ensures.low_len
    c.loop-block-test.true c.loop-i-test.true in
    let e = ap (λ (p : ℕ × ℕ). p.0) (c.block.ensures.pairs c.loop-i.i w.early) in
    let s = listed_classes cs rank (length c.args.counts.now) j c.requires.table.paired.whole c.requires.table.below
    (listed_inside c.rank-rank.ensures.paired w) in
    let below = s.0 in
    let long = c.loop-i.auto.counts in
    let next : j + 1 ≡ c.loop-block.block * 2 ^ rank + (c.loop-i.i + 1) = omega arith in
    elim c.if-counts-lower-eq0.branch [
      | then-counts-lower-eq0 v ↦
          let zero = sym (ap (λ k. get_or counts k 0) e) ∙ v.if-counts-lower-eq0.true in
          rw v.counts-is
          (subst (λ z. z) (λ t. Counted ps (set counts (sym e t) 1) (next t))
          (counted_step ps counts j 1 (omega arith) (λ (z : 1 ≡ 0). absurd (omega arith)) (λ n. absurd (n zero)) c.loop-i.invariant))
      | else-counts-lower-eq0 v ↦
          rw v.counts-is
          (subst (λ z. z) (λ t. Counted ps (set counts (sym e t) 2) (next t))
          (counted_step ps counts j 2 (omega arith) (λ (z : 2 ≡ 0). absurd (omega arith)) (λ n (z : 2 ≡ 1). absurd (omega arith)) c.loop-i.invariant))
    ]

pub returns-clause-lone : goal.returns-clause-lone
returns-clause-lone c =
    let cs = c.args.entries.now.numbers in
    let rank = c.args.entries.now.rank in
    let l = length-pairs cs (2 ^ rank) in
    let a = all_pairs c.requires.table.paired c.loop-block.block c.len-2.ensures.count c.rank-rank.ensures.rank c.loop-block-test.false in
    counted_all (pairs cs (2 ^ rank)) c.loop-block.counts (c.loop-block.block * 2 ^ rank) (omega arith) c.loop-block.invariant
