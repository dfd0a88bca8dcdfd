use Rattle.std.proofs.Common.{◌≡◌, ℕ, ◌-◌, ◌<◌, ◌≤◌, length, get_or, sym, ap, ◌∙◌, arith}
use Rattle.std.proofs.lemmas.List.{length-set}
use Rattle.layer_core.specs.Pairing.{no_cell}
use Rattle.solutions.specs.Solutions.{cost_for}
use Rattle.solutions.proofs.FlatLists.{flat_cost}
use Rattle.solutions.proofs.FoundOrders.{total_fewest, total_size, total_small}
use Rattle.solutions.proofs.ReadCells.{both_counted, both_next, both_read, both_start, cost_falls, variable_fits, variable_small}
use Rattle.solutions.proofs.ReadOrders.{full_small, order_first}
use Rattle.solutions.proofs.reading.read_optimum.Goals as goal

at_most : (n m k : ℕ) → n ≡ m → m ≤ k → n ≤ k
at_most n m k e l = omega (arith, e, l)

same : (n m k : ℕ) → n ≡ m → k ≡ m → n ≡ k
same n m k e f = omega (arith, e, f)

shorter : (a b k : ℕ) → a ≡ b → k < b → k < a
shorter a b k e l = omega (arith, e, l)

pub loop-place-init : goal.loop-place-init
loop-place-init c = λ t h e.
    let cells = c.args.cells.now in
    let full = ap (λ (k : ℕ). k - 1) h.all.many in
    let small = full_small t.problem.inputs in
    both_start t (length cells - 1) (get_or cells (length cells - 1) no_cell).cost c.args.order.now c.args.levels.now full
    (flat_cost t cells (length cells - 1) no_cell h.all (omega (arith, full, small))) (sym e)
    (c.requires.counts ∙ sym e)

pub overflow_shl-set : goal.overflow_shl-set
overflow_shl-set c =
    let r = c.requires.cells in
    let l = c.loop-place in
    variable_small r.instance r.cells_are.bounded (at_most _ _ 16 r.inputs r.few) c.args.cells.now r.cells_are.all l.set l.cost l.order l.levels l.place
    (l.invariant r.instance r.cells_are (same _ _ _ r.inputs l.auto.order)) (shorter _ _ l.place l.auto.order c.loop-place-test.true)

pub overflow_sub-set-in-loop-place : goal.overflow_sub-set-in-loop-place
overflow_sub-set-in-loop-place c =
    let r = c.requires.cells in
    let l = c.loop-place in
    variable_fits r.instance r.cells_are.bounded (at_most _ _ 16 r.inputs r.few) c.args.cells.now r.cells_are.all l.set l.cost l.order l.levels l.place
    (l.invariant r.instance r.cells_are (same _ _ _ r.inputs l.auto.order)) (shorter _ _ l.place l.auto.order c.loop-place-test.true)

pub overflow_sub-levels : goal.overflow_sub-levels
overflow_sub-levels c =
    let r = c.requires.cells in
    let l = c.loop-place in
    cost_falls r.instance r.cells_are.bounded (at_most _ _ 16 r.inputs r.few) c.args.cells.now r.cells_are.all l.set l.cost l.order l.levels l.place
    (l.invariant r.instance r.cells_are (same _ _ _ r.inputs l.auto.order)) (shorter _ _ l.place l.auto.order c.loop-place-test.true)

pub loop-place-preserved : goal.loop-place-preserved
loop-place-preserved c = λ t h e.
    let r = c.requires.cells in
    let l = c.loop-place in
    let o = l.auto.order in
    let few = r.few in
    let k = e ∙ length-set l.order l.place (get_or c.args.cells.now l.set no_cell).variable in
    both_next t h.bounded (omega (arith, k, o, few)) c.args.cells.now h.all l.set l.cost l.order l.levels l.place (l.invariant t h k)
    (shorter _ _ l.place o c.loop-place-test.true)

pub returns-clause-optimum : goal.returns-clause-optimum
returns-clause-optimum c = λ t h e.
    let cells = c.args.cells.now in
    let l = c.loop-place in
    let b = h.bounded in
    let o = l.auto.order in
    let i = l.invariant t h (omega (arith, e, o)) in
    let f = c.loop-place-test.false in
    let end : length l.order ≤ l.place = omega (arith, o, f) in
    let a = l.auto.place-end in
    let last : l.place ≤ t.problem.inputs = omega (arith, e, a) in
    let read = both_read t l.set l.cost l.order l.levels l.place i end in
    let full = ap (λ k. k - 1) h.all.many in
    let small = full_small t.problem.inputs in
    let is = flat_cost t cells (length cells - 1) no_cell h.all (omega (arith, full, small)) ∙ ap (cost_for t) full in
    record {
      first = record {
        first = order_first t b l.order read;
        fewest = total_fewest t b l.order read _ is;
        size = total_size t b l.order read _ is;
        levels_are = both_counted t l.set l.cost l.order l.levels l.place i end last;
      };
      within = total_small t b l.order read _ is;
    }
