use Rattle.std.proofs.Common.{◌≡◌, ◌+◌, ◌-◌, ◌*◌, ◌%◌, ◌^◌, ◌≤◌, refl, ap, subst, ◌∙◌, slice_index, arith}
use Rattle.std.specs.Int.{bit_at}
use Rattle.std.proofs.Math.Pow.{pow_mono}
use Rattle.std.proofs.lemmas.Nat.{one_shl, pow_pos}
use Rattle.rayon.proofs.ListFacts.{IfOk-then}
use Rattle.definitions.specs.Problems.{functions}
use Rattle.edge_walks.specs.LowerClasses.{IsWide}
use Rattle.edge_walks.specs.Tables.{rows_with}
use Rattle.subfunction_classes.proofs.HighSets.{double}
use Rattle.edge_walks.proofs.IntoOne.{none_into}
use Rattle.edge_walks.proofs.WalkTables.{wide_upper}
use Rattle.std.proofs.lemmas.Grind.{common_steps}
use Rattle.edge_walks.proofs.upper_halves.passes_by_lower_classes.Goals as goal

pub overflow_add-set : goal.overflow_add-set
overflow_add-set c = grind (arith, one_shl, double, pow_pos, pow_mono)

pub returns : goal.returns
returns c = IfOk-then c.tells_wide.result _ _ c.tells_wide.ensures (λ wide labels yes.
    let P = c.args.at.edges.problem.now in
    let x = c.args.at.free - 1 in
    let values = c.args.at.edges.values.now in
    let judged = c.args.at.edges.judged.now in
    let shift = one_shl x 16 (omega arith) in
    let here : c.set.result + 1 * 2 ^ x % 2 ^ 16 ≡ c.args.at.table.now.set + 2 ^ x = λ k. c.set.ensures k + shift k in
    let needed = c.in_ok-needed.needed.items in
    none_into P.inputs (functions P) values judged (c.args.at.table.now.set + 2 ^ x) x needed c.args.at.edges.tables.members
    (λ U above below. c.if-has_later.ensures refl U (omega arith) (omega arith))
    (λ z b. subst (λ T. slice_index values T ≤ slice_index values (T - 2 ^ z) + slice_index needed z) here
    (c.in_ok-needed.ensures.enough z (ap (λ T. bit_at (slice_index judged T) z) here ∙ b)))
    (wide_upper P x c.args.at.free c.args.at.table.now needed (omega arith) c.args.at.stands
    (subst (IsWide (rows_with c.args.at.table.now x)) c.deref.ensures.value (labels yes))))

pub needed_widths-requires : goal.needed_widths-requires
needed_widths-requires c = grind (arith, common_steps)

pub has_later-requires-clause-within : goal.has_later-requires-clause-within
has_later-requires-clause-within c = grind (arith, common_steps)
