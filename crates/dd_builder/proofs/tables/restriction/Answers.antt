use Rattle.std.proofs.Common.{◌*◌, ◌%◌, ◌^◌, ◌<◌, sym, subst, ◌∙◌, arith}
use Rattle.std.proofs.lemmas.Nat.{one_shl, pow_pos}
use Rattle.unique_table.specs.Plans.{order_of}
use Rattle.dd_builder.specs.Paths.{IsPointOf}
use Rattle.dd_builder.proofs.Pathways.{point_above}
use Rattle.dd_builder.proofs.SessionSteps.{stays, makes_same}
use Rattle.dd_builder.proofs.RestrictedNodes.{restriction_piece, restrictions_count}
use Rattle.dd_builder.proofs.tables.restriction.Goals as goal

pub returns-clause-made : goal.returns-clause-made
returns-clause-made c = grind (arith, restriction_piece, one_shl, makes_same, stays)

pub output_below-requires-clause-path : goal.output_below-requires-clause-path
output_below-requires-clause-path c =
    let bits = c.args.piece % (1 * 2 ^ c.top_variables-level.result % 18446744073709551616) in
    let small : bits < 2 ^ c.top_variables-level.result =
    (let p = pow_pos c.top_variables-level.result in
    subst (λ k. c.args.piece % k < 2 ^ c.top_variables-level.result) (sym (one_shl c.top_variables-level.result 64 (omega arith))) (omega (arith, p))) in
    record {
      level = grind arith;
      bits = small;
      point = point_above (order_of c.args.store.now.plan) c.top_variables-level.result bits c.point_of-point.result small
          (subst (λ xs. IsPointOf xs bits c.point_of-point.result) (c.variables-order.ensures.value ∙ c.order.ensures.value) c.point_of-point.ensures);
    }

pub output_below-requires-clause-output : goal.output_below-requires-clause-output
output_below-requires-clause-output c = grind (arith, one_shl, restrictions_count)
