use Rattle.std.proofs.Common.{◌≡◌, ◌*◌, ◌^◌, ◌≤◌, length, take, sym, subst, arith}
use Rattle.subfunction_classes.specs.Dependence.{joined_mask}
use Rattle.subfunction_classes.specs.Places as places
use Rattle.subfunction_classes.proofs.Index.{length-pairs}
use Rattle.subfunction_classes.proofs.Firsts.{made_numbers, made_many, made_told}
use Rattle.pair_numbering.proofs.InBlocks.{all_pairs}
use Rattle.pair_numbering.proofs.CellSteps.{fronted_none}
use Rattle.pair_numbering.proofs.cells.number_blocks.Goals as goal

pub loop-block-init : goal.loop-block-init
loop-block-init c =
    let pairs = c.args.pairs.now in
    let z : 0 * 2 ^ pairs.entries.rank ≡ 0 = omega arith in
    rw z
    (fronted_none pairs.masks.now pairs.x pairs.entries.numbers pairs.entries.rank c.args.cells.now c.args.out.now c.args.joined.now
    c.requires.out c.requires.joined c.requires.cells c.requires.empty)

pub returns : goal.returns
returns c =
    let rank = c.args.pairs.now.entries.rank in
    let ps = places.pairs c.args.pairs.now.entries.numbers (2 ^ rank) in
    let join = joined_mask c.args.pairs.now.masks.now c.args.pairs.now.x in
    let joined = take c.loop-block.count c.loop-block.joined in
    let j = c.loop-block.block * 2 ^ rank in
    let made = c.loop-block.invariant.celled.made in
    let l = length-pairs c.args.pairs.now.entries.numbers (2 ^ rank) in
    let a = all_pairs c.rank-rank.ensures.paired c.loop-block.block c.len.ensures.count c.rank-rank.ensures.rank c.loop-block-test.false in
    let all : length ps ≤ j = subst (λ n. n ≤ j) (sym l) a in
    record {
      numbers_are = made_numbers 0 ps join c.loop-block.out joined j all made;
      many = made_many 0 ps join c.loop-block.out joined j all made;
      labels = made_told 0 ps join c.loop-block.out joined j all made;
    }
