use Rattle.std.proofs.Common.{rules, ◌≡◌, length, ap, ◌∙◌}
use Rattle.std.proofs.lemmas.List.FromFn.{length-range_with_len}
use Rattle.definitions.specs.Orders.{variables as all_variables}
use Rattle.store_tests.proofs.builds.read_input.Goals as goal

pub invariant_of-result-clause-is_its_order : goal.invariant_of-result-clause-is_its_order
invariant_of-result-clause-is_its_order g c =
    let made : c.expect-order.result ≡ all_variables c.inputs.result = search rules in
    ap length made ∙ (length-range_with_len 0 c.inputs.result ∙ c.inputs.ensures.value)
