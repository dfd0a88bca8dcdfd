use Rattle.std.proofs.Common.{◌≡◌, ℕ, ◌≤◌, List, length, sym, ap, ◌∙◌, subst, arith}
use Rattle.std.specs.Vec.{with_items}
use Rattle.std.proofs.lemmas.List.{with_items_is}
use Rattle.definitions.specs.OrderFaults.{Accepts}
use Rattle.definitions.specs.Orders.{IsOrder}
use Rattle.definitions.specs.Problems.{functions}
use Rattle.layer_core.specs.Instances.{InstanceOf}
use Rattle.solutions.specs.Bounded.{HoldsCells}
use Rattle.solutions.specs.Solutions.{IsFirstFewest, IsReadFor}
use Rattle.solutions.proofs.optima.optimum_of.Goals as goal

-- the first order of the fewest nodes is an order
accepted : (t : InstanceOf) (order levels : List ℕ) (total : ℕ) → IsReadFor t order levels total → 1 ≤ t.problem.inputs → t.problem.inputs ≤ 16 →
    length order ≡ t.problem.inputs → Accepts order
accepted t order levels total h some few long = record {
  some = omega (arith, long, some);
  few = omega (arith, long, few);
  order = subst (λ n. IsOrder n order) (sym long) h.first.first.fewest.is_order;
}

pub from_variables-requires : goal.from_variables-requires
from_variables-requires c =
    let t = c.args.cells.now in
    let order = c.read_optimum-total.new.order in
    let before : length c.deref_mut.result.now ≡ t.problem.inputs =
    omega (
      arith,
      ap length c.deref_mut.ensures.value,
      c.in_ok-variables.variables.ok.0,
      c.in_ok-variables.ensures.len,
      c.from.ensures,
      c.inputs-2.ensures.value,
    ) in
    let long : length order ≡ t.problem.inputs = c.read_optimum-total.ensures.places ∙ before in
    let held = subst (λ u. HoldsCells u c.deref.result.now) c.cells.view_is
    (subst (HoldsCells c.cells.inside.instance.now) (sym c.deref.ensures.value) c.cells.invariant) in
    subst Accepts
    (sym (with_items_is c.in_ok-variables.variables order
    (c.read_optimum-total.ensures.places ∙ ap length c.deref_mut.ensures.value ∙ sym c.in_ok-variables.variables.ok.0)))
    (accepted t order c.read_optimum-total.new.levels c.read_optimum-total.result
    (c.read_optimum-total.ensures.optimum t held (sym before)) (omega (arith, c.inputs.ensures.some, c.inputs.ensures.value))
    (omega (arith, c.inputs.ensures.few, c.inputs.ensures.value)) long)

pub returns-clause-optimum : goal.returns-clause-optimum
returns-clause-optimum c =
    let t = c.args.cells.now in
    let order = c.read_optimum-total.new.order in
    let levels = c.read_optimum-total.new.levels in
    let total = c.read_optimum-total.result in
    let before : length c.deref_mut.result.now ≡ t.problem.inputs =
    omega (
      arith,
      ap length c.deref_mut.ensures.value,
      c.in_ok-variables.variables.ok.0,
      c.in_ok-variables.ensures.len,
      c.from.ensures,
      c.inputs-2.ensures.value,
    ) in
    let held = subst (λ u. HoldsCells u c.deref.result.now) c.cells.view_is
    (subst (HoldsCells c.cells.inside.instance.now) (sym c.deref.ensures.value) c.cells.invariant) in
    let order_is = c.from_variables.ensures
    ∙ with_items_is c.in_ok-variables.variables order
    (c.read_optimum-total.ensures.places ∙ ap length c.deref_mut.ensures.value ∙ sym c.in_ok-variables.variables.ok.0) in
    let levels_are = with_items_is c.in_ok-levels.levels levels
    (c.read_optimum-total.ensures.counts ∙ ap length c.deref_mut-2.ensures.value ∙ sym c.in_ok-levels.levels.ok.0) in
    subst (λ o. IsFirstFewest t.problem.inputs (functions t.problem) t.pairs.pairs o (with_items c.in_ok-levels.levels levels).items total) (sym order_is)
    (subst (λ ls. IsFirstFewest t.problem.inputs (functions t.problem) t.pairs.pairs order ls total) (sym levels_are)
    (c.read_optimum-total.ensures.optimum t held (sym before)).first)
