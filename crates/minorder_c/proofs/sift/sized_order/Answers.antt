use Rattle.std.proofs.Common.{◌≡◌, ℕ, ◌<◌, length, slice_index, ap, sym, subst, ◌∙◌, arith}
use Rattle.std.proofs.lemmas.Grind.{common_steps}
use Rattle.definitions.specs.Levels.{level_count, size_under}
use Rattle.definitions.specs.Orders.{IsOrder}
use Rattle.definitions.specs.Problems.{functions}
use Rattle.minorder_c.proofs.Counts.{counts_read}
use Rattle.minorder_c.proofs.sift.sized_order.Goals as goal

pub returns-clause-sized : goal.returns-clause-sized
returns-clause-sized c =
    let s = c.args.sifted.now in
    let order = c.in_ok-order.order in
    let same : order ≡ s.order = c.in_ok-order.ensures ∙ c.order.ensures.value in
    let is = c.size.ensures.sifted in
    let long : length c.in_ok-to_vec.field-0.items ≡ length order = grind (arith, common_steps) in
    let read : (i : ℕ) → i < length order → slice_index c.in_ok-to_vec.field-0.items i ≡ level_count s.problem.inputs (functions s.problem) order i =
    λ i low. grind (arith, common_steps) in
    record {
      is_order = subst (λ z. z) (λ i. IsOrder (sym is.managed.inputs i) (sym same i)) is.managed.is_order;
      levels_are = counts_read s.problem.inputs (functions s.problem) order c.in_ok-to_vec.field-0.items long read;
      size = c.size.ensures.value ∙ is.true_size.size_is ∙ ap (size_under s.problem.inputs (functions s.problem)) (sym same);
    }
