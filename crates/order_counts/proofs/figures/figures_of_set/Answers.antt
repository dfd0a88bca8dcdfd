use Rattle.std.proofs.Common.{◌≡◌, ◌+◌, ◌*◌, ◌-◌, ◌%◌, ◌^◌, ◌<◌, slice_index, slice_index_or, sym, subst, arith}
use Rattle.std.proofs.lemmas.Bool.{iff_false}
use Rattle.std.proofs.lemmas.Nat.{one_shl}
use Rattle.definitions.specs.Problems.{functions}
use Rattle.order_counts.specs.declared.figures.Figures.{Figures}
use Rattle.order_counts.proofs.Rows.{row_at}
use Rattle.order_counts.proofs.Whole.{tidy_none}
use Rattle.order_counts.proofs.Partial.{ArePartial, below_at, counts_small, partial_all, partial_lacking, partial_none, partial_with, most_small, totals_small}
use Rattle.order_counts.proofs.figures.figures_of_set.Goals as goal
use Rattle.order_counts.proofs.figures.figures_of_set.Goals.{then-contains, else-contains}

pub loop-x-init : goal.loop-x-init
loop-x-init c =
    let made = c.without_nodes-figures.ensures in
    partial_none c.args.pairs.now.inputs (functions c.args.problem.now) c.args.pairs.now.pairs c.args.set c.without_nodes-figures.result made.count made.total
    (tidy_none c.without_nodes-figures.result made.count made.fewest made.most)

abbrev nothing : Figures
nothing = record { count = 0; fewest = record { nodes = 0; orders = 0 }; most = record { nodes = 0; orders = 0 }; total = 0 }

pub add-requires-clause-tidy : goal.add-requires-clause-tidy
add-requires-clause-tidy c =
    let x = c.loop-x.x in
    let few = c.inputs-x-end.ensures.kept.few in
    let small : c.loop-x.x < c.args.pairs.now.inputs = omega (arith, c.loop-x-test.true, c.inputs-x-end.ensures.value) in
    let e : 1 * 2 ^ c.loop-x.x % 65536 ≡ 2 ^ c.loop-x.x = one_shl c.loop-x.x 16 (omega (arith, small, few)) in
    let b = below_at c.args.pairs.now.inputs (functions c.args.problem.now) c.args.pairs.now.pairs c.args.set x (1 * 2 ^ c.loop-x.x % 65536)
    c.args.smaller.now nothing
    c.requires.smaller (c.contains.ensures.0 c.if-contains.true) e in
    (c.loop-x.invariant.tidy, b.tidy)

pub add-requires-clause-count : goal.add-requires-clause-count
add-requires-clause-count c =
    let n = c.args.pairs.now.inputs in
    let P = c.args.pairs.now.pairs in
    let x = c.loop-x.x in
    let few = c.inputs-x-end.ensures.kept.few in
    let small : c.loop-x.x < c.args.pairs.now.inputs = omega (arith, c.loop-x-test.true, c.inputs-x-end.ensures.value) in
    let e : 1 * 2 ^ c.loop-x.x % 65536 ≡ 2 ^ c.loop-x.x = one_shl c.loop-x.x 16 (omega (arith, small, few)) in
    let bit = c.contains.ensures.0 c.if-contains.true in
    let l = c.requires.lawful in
    let b = below_at n (functions c.args.problem.now) P c.args.set x (1 * 2 ^ c.loop-x.x % 65536) c.args.smaller.now nothing c.requires.smaller bit e in
    counts_small n (functions c.args.problem.now) P c.args.set few (let some = c.requires.some in omega arith) c.requires.within l x c.loop-x.figures
    (slice_index_or c.args.smaller.now (c.args.set - 1 * 2 ^ c.loop-x.x % 65536) nothing) small bit c.loop-x.invariant b

pub add-requires-clause-total : goal.add-requires-clause-total
add-requires-clause-total c =
    let n = c.args.pairs.now.inputs in
    let P = c.args.pairs.now.pairs in
    let x = c.loop-x.x in
    let few = c.inputs-x-end.ensures.kept.few in
    let small : c.loop-x.x < c.args.pairs.now.inputs = omega (arith, c.loop-x-test.true, c.inputs-x-end.ensures.value) in
    let e : 1 * 2 ^ c.loop-x.x % 65536 ≡ 2 ^ c.loop-x.x = one_shl c.loop-x.x 16 (omega (arith, small, few)) in
    let bit = c.contains.ensures.0 c.if-contains.true in
    let l = c.requires.lawful in
    let b = below_at n (functions c.args.problem.now) P c.args.set x (1 * 2 ^ c.loop-x.x % 65536) c.args.smaller.now nothing c.requires.smaller bit e in
    totals_small n (functions c.args.problem.now) P c.args.set few (let some = c.requires.some in omega arith) c.requires.within l x
    (slice_index c.args.row.now x) c.loop-x.figures
    (slice_index_or c.args.smaller.now (c.args.set - 1 * 2 ^ c.loop-x.x % 65536) nothing) small bit c.requires.few
    (row_at n (functions c.args.problem.now) c.args.set x c.args.row.now few c.requires.row small bit) c.loop-x.invariant b

pub add-requires-clause-most : goal.add-requires-clause-most
add-requires-clause-most c = λ counted.
    let n = c.args.pairs.now.inputs in
    let P = c.args.pairs.now.pairs in
    let x = c.loop-x.x in
    let few = c.inputs-x-end.ensures.kept.few in
    let small : c.loop-x.x < c.args.pairs.now.inputs = omega (arith, c.loop-x-test.true, c.inputs-x-end.ensures.value) in
    let e : 1 * 2 ^ c.loop-x.x % 65536 ≡ 2 ^ c.loop-x.x = one_shl c.loop-x.x 16 (omega (arith, small, few)) in
    let bit = c.contains.ensures.0 c.if-contains.true in
    let b = below_at n (functions c.args.problem.now) P c.args.set x (1 * 2 ^ c.loop-x.x % 65536) c.args.smaller.now nothing c.requires.smaller bit e in
    most_small n (functions c.args.problem.now) few c.requires.few P c.args.set x (slice_index c.args.row.now x)
    (slice_index_or c.args.smaller.now (c.args.set - 1 * 2 ^ c.loop-x.x % 65536) nothing)
    small bit (row_at n (functions c.args.problem.now) c.args.set x c.args.row.now few c.requires.row small bit) b counted

pub loop-x-preserved : goal.loop-x-preserved
loop-x-preserved c =
    let n = c.args.pairs.now.inputs in
    let P = c.args.pairs.now.pairs in
    let x = c.loop-x.x in
    let few = c.inputs-x-end.ensures.kept.few in
    let small : c.loop-x.x < c.args.pairs.now.inputs = omega (arith, c.loop-x-test.true, c.inputs-x-end.ensures.value) in
    let e : 1 * 2 ^ c.loop-x.x % 65536 ≡ 2 ^ c.loop-x.x = one_shl c.loop-x.x 16 (omega (arith, small, few)) in
    elim c.if-contains.branch [
      | then-contains w ↦
          let bit = c.contains.ensures.0 w.if-contains.true in
          let b = below_at n (functions c.args.problem.now) P c.args.set x (1 * 2 ^ c.loop-x.x % 65536) c.args.smaller.now nothing c.requires.smaller bit e in
          subst (ArePartial n (functions c.args.problem.now) P c.args.set (x + 1)) (sym w.figures-is)
          (partial_with n (functions c.args.problem.now) P c.args.set x (slice_index c.args.row.now x) c.loop-x.figures
          (slice_index_or c.args.smaller.now (c.args.set - 1 * 2 ^ c.loop-x.x % 65536) nothing) w.add.new.self bit
          (row_at n (functions c.args.problem.now) c.args.set x c.args.row.now few c.requires.row small bit) c.loop-x.invariant b w.add.ensures.count
          w.add.ensures.total
          w.add.ensures.tidy w.add.ensures.figures)
      | else-contains w ↦
          subst (ArePartial n (functions c.args.problem.now) P c.args.set (x + 1)) (sym w.figures-is)
          (partial_lacking n (functions c.args.problem.now) P c.args.set x c.loop-x.figures (iff_false c.contains.ensures w.if-contains.false)
          c.loop-x.invariant)
    ]

pub returns : goal.returns
returns c =
    let n = c.args.pairs.now.inputs in
    let P = c.args.pairs.now.pairs in
    let few = c.inputs-x-end.ensures.kept.few in
    let l = c.requires.lawful in
    let e : c.loop-x.x ≡ c.args.pairs.now.inputs = omega (arith, c.loop-x-test.false, c.inputs-x-end.ensures.value, c.loop-x.auto.x-end) in
    partial_all n (functions c.args.problem.now) P c.args.set few (let some = c.requires.some in omega arith) c.requires.within l c.loop-x.figures
    (subst (λ k. ArePartial n (functions c.args.problem.now) P c.args.set k c.loop-x.figures) e c.loop-x.invariant)
