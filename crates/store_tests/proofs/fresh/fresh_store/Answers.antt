use Rattle.std.proofs.Common.{rules, ◌≡◌, length, ap, sym, ◌∙◌}
use Rattle.std.proofs.lemmas.List.FromFn.{length-range_with_len}
use Rattle.definitions.specs.Orders.{variables as all_variables}
use Rattle.store_tests.proofs.fresh.fresh_store.Goals as goal

pub new-requires-clause-inputs : goal.new-requires-clause-inputs
new-requires-clause-inputs g c =
    let made : c.expect-order.result ≡ all_variables c.inputs.result = search rules in
    sym (ap length made ∙ (length-range_with_len 0 c.inputs.result ∙ c.inputs.ensures.value))
