use Rattle.std.proofs.Common.{◌≡◌, ◌+◌, ◌*◌, ◌^◌, ◌<◌, length, sym, subst, ◌∙◌, arith}
use Rattle.subfunction_classes.proofs.Index.{length-pairs}
use Rattle.pair_numbering.proofs.InBlocks.{in_half, masked_table, place_is, place_small}
use Rattle.pair_numbering.proofs.CellSteps.{fronted_block, pair_classes, place_inside, cell_inside, fronted_new, fronted_again, fronted_old}
use Rattle.pair_numbering.proofs.cells.number_block.Goals as goal
use Rattle.pair_numbering.proofs.cells.number_block.Goals.{then-next-eq0+then-next-eq0-3, then-next-eq0-2, else-next-eq0-2, then-next-eq0+else-next-eq0-3, else-next-eq0}

pub loop-i-init : goal.loop-i-init
loop-i-init g c =
    let e : c.args.block * 2 ^ c.args.pairs.now.entries.rank + 0 ≡ c.args.block * 2 ^ c.args.pairs.now.entries.rank = omega arith in
    record { fronted = rw e c.requires.before; few = omega arith }

pub bounds-cells-cell : goal.bounds-cells-cell
bounds-cells-cell g c =
    let w = in_half c.rank.ensures.paired c.block.ensures.low_len c.requires.block c.loop-i-test.true in
    cell_inside (masked_table c.args.pairs.now c.rank.ensures.paired) c.loop-i.invariant.fronted w (c.block.ensures.pairs c.loop-i.i w.early)

pub bounds-cells-cell-then-next-eq0 : goal.bounds-cells-cell-then-next-eq0
bounds-cells-cell-then-next-eq0 g c =
    let w = in_half c.rank.ensures.paired c.block.ensures.low_len c.requires.block c.loop-i-test.true in
    cell_inside (masked_table c.args.pairs.now c.rank.ensures.paired) c.loop-i.invariant.fronted w (c.block.ensures.pairs c.loop-i.i w.early)

pub join_mask-requires-clause-lower : goal.join_mask-requires-clause-lower
join_mask-requires-clause-lower g c =
    let w = in_half c.rank.ensures.paired c.block.ensures.low_len c.requires.block c.loop-i-test.true in
    (pair_classes (masked_table c.args.pairs.now c.rank.ensures.paired) c.loop-i.invariant.fronted w (c.block.ensures.pairs c.loop-i.i w.early)).0

pub join_mask-requires-clause-upper : goal.join_mask-requires-clause-upper
join_mask-requires-clause-upper g c =
    let w = in_half c.rank.ensures.paired c.block.ensures.low_len c.requires.block c.loop-i-test.true in
    (pair_classes (masked_table c.args.pairs.now c.rank.ensures.paired) c.loop-i.invariant.fronted w (c.block.ensures.pairs c.loop-i.i w.early)).1

pub bounds-out-block : goal.bounds-out-block
bounds-out-block g c =
    let w = in_half c.rank.ensures.paired c.block.ensures.low_len c.requires.block c.loop-i-test.true in
    let k = place_inside (masked_table c.args.pairs.now c.rank.ensures.paired) c.loop-i.invariant.fronted w (c.block.ensures.pairs c.loop-i.i w.early) in
    subst (λ z. z < length c.loop-i.out) (sym (place_is c.rank.ensures.paired c.args.block c.loop-i.i c.rank.ensures.rank)) k

pub overflow_mul-out : goal.overflow_mul-out
overflow_mul-out g c =
    let w = place_small _ _ _ _ (bounds-out-block g c) c.loop-i.invariant.fronted.celled.made.long c.rank.ensures.paired.short in
    omega arith

pub overflow_add-out : goal.overflow_add-out
overflow_add-out g c =
    let w = place_small _ _ _ _ (bounds-out-block g c) c.loop-i.invariant.fronted.celled.made.long c.rank.ensures.paired.short in
    omega arith

pub offset_bounds-out-block : goal.offset_bounds-out-block
offset_bounds-out-block g c =
    let w = place_small _ _ _ _ (bounds-out-block g c) c.loop-i.invariant.fronted.celled.made.long c.rank.ensures.paired.short in
    omega arith

pub bounds-joined-count : goal.bounds-joined-count
bounds-joined-count g c =
    let w = in_half c.rank.ensures.paired c.block.ensures.low_len c.requires.block c.loop-i-test.true in
    let k = place_inside (masked_table c.args.pairs.now c.rank.ensures.paired) c.loop-i.invariant.fronted w (c.block.ensures.pairs c.loop-i.i w.early) in
    let few = c.loop-i.invariant.fronted.few in
    let long = c.loop-i.invariant.fronted.long in
    let made = c.loop-i.invariant.fronted.celled.made.long in
    let p = length-pairs c.args.pairs.now.entries.numbers (2 ^ c.args.pairs.now.entries.rank) in
    omega arith

pub overflow_add-count : goal.overflow_add-count
overflow_add-count g c =
    let w = in_half c.rank.ensures.paired c.block.ensures.low_len c.requires.block c.loop-i-test.true in
    let early = w.early in
    let few = c.loop-i.invariant.few in
    let room = c.requires.room in
    omega arith

pub bounds-out-block-else-next-eq0 : goal.bounds-out-block-else-next-eq0
bounds-out-block-else-next-eq0 g c =
    let w = in_half c.rank.ensures.paired c.block.ensures.low_len c.requires.block c.loop-i-test.true in
    let k = place_inside (masked_table c.args.pairs.now c.rank.ensures.paired) c.loop-i.invariant.fronted w (c.block.ensures.pairs c.loop-i.i w.early) in
    subst (λ z. z < length c.loop-i.out) (sym (place_is c.rank.ensures.paired c.args.block c.loop-i.i c.rank.ensures.rank)) k

pub loop-i-preserved : goal.loop-i-preserved
loop-i-preserved g c =
    let table = masked_table c.args.pairs.now c.rank.ensures.paired in
    let w = in_half c.rank.ensures.paired c.block.ensures.low_len c.requires.block c.loop-i-test.true in
    let is = c.block.ensures.pairs c.loop-i.i w.early in
    let e = place_is c.rank.ensures.paired c.args.block c.loop-i.i c.rank.ensures.rank in
    elim c.if-next-eq0.branch [
      | then-next-eq0+then-next-eq0-3 t ↦ elim t.if-next-eq0-2.branch [
        | then-next-eq0-2 v ↦ record {
          fronted = rw (t.cells-is, t.joined-is, t.out-is, e, v.number-is, t.count-is)
              (fronted_new table c.loop-i.invariant.fronted w is t.join_mask.result t.join_mask.ensures
              (sym c.from-next.ensures ∙ v.if-next-eq0-2.true));
          few = omega (arith, t.count-is, c.loop-i.invariant.few);
        }
        | else-next-eq0-2 v ↦ absurd (v.if-next-eq0-2.false t.if-next-eq0-3.true)
      ]
      | then-next-eq0+else-next-eq0-3 t ↦ elim t.if-next-eq0-2.branch [
        | then-next-eq0-2 v ↦ absurd (t.if-next-eq0-3.false v.if-next-eq0-2.true)
        | else-next-eq0-2 v ↦ record {
          fronted = rw (t.cells-is, t.joined-is, t.out-is, e, v.number-is, t.count-is, c.from-next.ensures)
              (fronted_again table c.loop-i.invariant.fronted w is t.join_mask.result (λ z. v.if-next-eq0-2.false (c.from-next.ensures ∙ z)));
          few = omega (arith, t.count-is, c.loop-i.invariant.few);
        }
      ]
      | else-next-eq0 t ↦ record {
        fronted = rw (t.cells-is, t.joined-is, t.out-is, e, t.count-is, c.from-next.ensures)
            (fronted_old table c.loop-i.invariant.fronted w is (λ z. t.if-next-eq0.false.1 (c.from-next.ensures ∙ z)));
        few = omega (arith, t.count-is, c.loop-i.invariant.few);
      }
    ]

pub returns : goal.returns
returns g c = grind (arith, fronted_block)
