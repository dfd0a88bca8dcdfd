use Rattle.std.proofs.Common.{◌≡◌, ℕ, ◌+◌, ◌-◌, ◌^◌, ◌<◌, ◌≤◌, [], length, get_or, slice_index, slice_index_or, sym, ap, ◌∙◌, subst, arith}
use Rattle.std.specs.List.{sum_by}
use Rattle.std.proofs.lemmas.Bool.{iff_false}
use Rattle.std.proofs.lemmas.Nat.{one_shl}
use Rattle.definitions.specs.Orders.{members}
use Rattle.definitions.specs.Problems.{functions}
use Rattle.order_counts.specs.Figures.{raised}
use Rattle.order_counts.specs.Sizes.{counts_at}
use Rattle.order_counts.proofs.CountsBelow.{raised_small}
use Rattle.order_counts.proofs.PartialCounts.{ArePartialCounts, counts_lacking, counts_none, counts_with, raised_is, sums_small}
use Rattle.order_counts.proofs.Sums.{ways_summed, ways_top}
use Rattle.order_counts.proofs.set_counts.add_orders.Goals as goal
use Rattle.order_counts.proofs.set_counts.add_orders.Goals.{then-contains, else-contains}

pub loop-x-init : goal.loop-x-init
loop-x-init c = counts_none c.args.given c.args.set c.args.counts.now c.requires.none

pub add-requires-clause-start : goal.add-requires-clause-start
add-requires-clause-start c =
    let few = c.inputs-x-end.ensures.kept.few in
    let small : c.loop-x.x < c.args.given.pairs.now.inputs = omega (arith, c.loop-x-test.true, c.inputs-x-end.ensures.value) in
    let power = one_shl c.loop-x.x 16 (omega (arith, small, few)) in
    let entry = c.index-smaller-set.is ∙ ap (λ k. slice_index_or c.args.smaller.now (c.args.set - k) c.index-smaller-set.result) power in
    let row = slice_index (get_or c.args.given.widths.now c.args.set []) c.loop-x.x in
    subst (λ s. 0 < length s.orders.items → c.loop-x.counts.least ≤ s.least + row) (sym entry)
    (λ some. omega (
      arith,
      c.loop-x.invariant.least,
      c.requires.least c.loop-x.x c.index-smaller-set.result small (c.contains.ensures.0 c.if-contains.true) some,
    ))

pub add-requires-clause-small : goal.add-requires-clause-small
add-requires-clause-small c =
    let few = c.inputs-x-end.ensures.kept.few in
    let small : c.loop-x.x < c.args.given.pairs.now.inputs = omega (arith, c.loop-x-test.true, c.inputs-x-end.ensures.value) in
    let power = one_shl c.loop-x.x 16 (omega (arith, small, few)) in
    let entry = c.index-smaller-set.is ∙ ap (λ k. slice_index_or c.args.smaller.now (c.args.set - k) c.index-smaller-set.result) power in
    subst (λ s. s.least + length s.orders.items + slice_index (get_or c.args.given.widths.now c.args.set []) c.loop-x.x < 2 ^ 32) (sym entry)
    (raised_small c.args.given c.requires.given_are c.args.set few c.requires.within c.args.smaller.now c.requires.smaller_are c.loop-x.x
    c.index-smaller-set.result small (c.contains.ensures.0 c.if-contains.true))

pub add-requires-clause-fits : goal.add-requires-clause-fits
add-requires-clause-fits c =
    let few = c.inputs-x-end.ensures.kept.few in
    let small : c.loop-x.x < c.args.given.pairs.now.inputs = omega (arith, c.loop-x-test.true, c.inputs-x-end.ensures.value) in
    let power = one_shl c.loop-x.x 16 (omega (arith, small, few)) in
    let entry = c.index-smaller-set.is ∙ ap (λ k. slice_index_or c.args.smaller.now (c.args.set - k) c.index-smaller-set.result) power in
    let row = slice_index (get_or c.args.given.widths.now c.args.set []) c.loop-x.x in
    let bit = c.contains.ensures.0 c.if-contains.true in
    subst (λ s. (k : ℕ) → c.loop-x.counts.least ≤ k → k < c.loop-x.counts.least + length c.loop-x.counts.orders.items →
    counts_at c.loop-x.counts k + raised (counts_at s) row k < 2 ^ 64) (sym entry)
    (sums_small c.args.given c.args.set c.args.counts.now c.loop-x.x c.loop-x.counts c.loop-x.invariant bit _
    (λ k lt. raised_is c.args.given c.requires.given_are c.args.set few c.requires.within c.args.smaller.now c.requires.smaller_are c.loop-x.x k
    c.index-smaller-set.result small bit (let limit = c.requires.limit in omega arith))
    few (λ e. absurd (let some = c.requires.some in omega arith)) c.requires.within c.requires.lawful small)

pub loop-x-preserved : goal.loop-x-preserved
loop-x-preserved c =
    let given = c.args.given in
    let set = c.args.set in
    let x = c.loop-x.x in
    let few = c.inputs-x-end.ensures.kept.few in
    let small : c.loop-x.x < c.args.given.pairs.now.inputs = omega (arith, c.loop-x-test.true, c.inputs-x-end.ensures.value) in
    let power = one_shl c.loop-x.x 16 (omega (arith, small, few)) in
    elim c.if-contains.branch [
      | then-contains w ↦
          let bit = c.contains.ensures.0 w.if-contains.true in
          let entry = w.index-smaller-set.is ∙ ap (λ k. slice_index_or c.args.smaller.now (c.args.set - k) w.index-smaller-set.result) power in
          subst (ArePartialCounts given set c.args.counts.now (x + 1)) (sym w.counts-is)
          (counts_with given set c.args.counts.now x c.loop-x.counts c.loop-x.invariant bit
          (raised (counts_at w.index-smaller-set.result) (slice_index (get_or given.widths.now set []) x))
          (λ k lt. ap (λ s. raised (counts_at s) (slice_index (get_or given.widths.now set []) x) k) entry
          ∙ raised_is given c.requires.given_are set few c.requires.within c.args.smaller.now c.requires.smaller_are x k w.index-smaller-set.result small bit
          (let limit = c.requires.limit in omega arith))
          w.add.new.self w.add.ensures.least w.add.ensures.long w.add.ensures.added)
      | else-contains w ↦
          subst (ArePartialCounts given set c.args.counts.now (x + 1)) (sym w.counts-is)
          (counts_lacking given set c.args.counts.now x c.loop-x.counts c.loop-x.invariant (iff_false c.contains.ensures w.if-contains.false))
    ]

pub returns-clause-counts : goal.returns-clause-counts
returns-clause-counts c = λ k low high.
    let given = c.args.given in
    let few = c.inputs-x-end.ensures.kept.few in
    let e : c.loop-x.x ≡ given.pairs.now.inputs = omega (arith, c.loop-x-test.false, c.inputs-x-end.ensures.value, c.loop-x.auto.x-end) in
    let top = ways_top given.pairs.now.inputs given.pairs.now.pairs c.args.set (functions given.problem.now) k in
    c.loop-x.invariant.partial k low high ∙ ap (λ m. sum_by top (members m c.args.set)) e
    ∙ ways_summed given.pairs.now.inputs given.pairs.now.pairs c.args.set few (λ z. absurd (let some = c.requires.some in omega arith)) c.requires.within
    c.requires.lawful (functions given.problem.now) k
