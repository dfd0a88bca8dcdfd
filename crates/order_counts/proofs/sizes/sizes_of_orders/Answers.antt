use Rattle.order_counts.specs.declared.set_counts.Recurrence.{Recurrence}
use Rattle.std.proofs.Common.{◌≡◌, ◌+◌, ◌-◌, ◌*◌, ◌%◌, ◌^◌, Err, IfOk, Ok, Result, ap, ◌∙◌, subst, arith, sym}
use Rattle.std.proofs.lemmas.Nat.{one_shl}
use Rattle.definitions.specs.Orders.{variables}
use Rattle.definitions.specs.Problems.{functions}
use Rattle.definitions.proofs.Precedence.Cycles.{acyclic_kept}
use Rattle.order_counts.specs.declared.cost_counts.CostCounts.{CostCounts}
use Rattle.order_counts.specs.Sizes.{AreCountsOf, AreCountsInLayer}
use Rattle.order_counts.proofs.AllSizes.{counts_of_all, sizes_of_all, limited}
use Rattle.order_counts.proofs.sizes.sizes_of_orders.Goals as goal

-- all that a result is said to be
all_said : {E : Type 0} (r : Result CostCounts E) (A B C Q : CostCounts → Type 0) → IfOk r A → IfOk r B → IfOk r C →
    ((s : CostCounts) → A s → B s → C s → Q s) → IfOk r Q
all_said (Ok s) A B C Q a b c f = f s a b c
all_said (Err e) A B C Q a b c f = tt

pub trimmed-requires : goal.trimmed-requires
trimmed-requires g c =
    let n = c.args.pairs.now.inputs in
    let few = c.inputs-inputs.ensures.kept.few in
    let sets : 1 * 2 ^ c.inputs-inputs.result % 18446744073709551616 ≡ 2 ^ n =
    one_shl c.inputs-inputs.result 64 (omega (arith, few, c.inputs-inputs.ensures.value)) ∙ ap (λ k. 2 ^ k) c.inputs-inputs.ensures.value in
    let limit = c.min.ensures in
    let whole = counts_of_all (record { problem = c.args.problem; pairs = c.args.pairs; widths = c.args.widths; limits = c.deref.result })
    (c.min.result + 1) c.loop-size.size (1 * 2 ^ c.inputs-inputs.result % 18446744073709551616 - 1) c.in_ok-limits.limits.items
    c.loop-size.counts.items c.index.result.now c.loop-size.invariant
    (omega (arith, c.loop-size-test.false, c.loop-size.auto.size-end, c.inputs-inputs.ensures.value)) c.in_ok-limits.ensures c.deref.ensures.value
    (ap (λ s. s - 1) sets) c.index.ensures in
    omega (arith, whole.within, limit)

pub returns : goal.returns
returns g c =
    let n = c.args.pairs.now.inputs in
    let kept = c.inputs-inputs.ensures.kept in
    let order = acyclic_kept n c.args.pairs.now.pairs kept.below kept.acyclic in
    let few = c.inputs-inputs.ensures.kept.few in
    let sets : 1 * 2 ^ c.inputs-inputs.result % 18446744073709551616 ≡ 2 ^ n =
    one_shl c.inputs-inputs.result 64 (omega (arith, few, c.inputs-inputs.ensures.value)) ∙ ap (λ k. 2 ^ k) c.inputs-inputs.ensures.value in
    let limit = c.min.ensures in
    let whole = counts_of_all (record { problem = c.args.problem; pairs = c.args.pairs; widths = c.args.widths; limits = c.deref.result })
    (c.min.result + 1) c.loop-size.size (1 * 2 ^ c.inputs-inputs.result % 18446744073709551616 - 1) c.in_ok-limits.limits.items
    c.loop-size.counts.items c.index.result.now c.loop-size.invariant
    (omega (arith, c.loop-size-test.false, c.loop-size.auto.size-end, c.inputs-inputs.ensures.value)) c.in_ok-limits.ensures c.deref.ensures.value
    (ap (λ s. s - 1) sets) c.index.ensures in
    all_said c.trimmed.result _ _ _ _ c.trimmed.ensures.trimmed c.trimmed.ensures.counts c.trimmed.ensures.within
    (λ s trimmed same within.
    sizes_of_all n (functions c.args.problem.now) c.args.pairs.now.pairs few c.requires.few order.0 order.2.is_order order.2.kept c.args.most
    c.index.result.now s
    (subst (λ m. AreCountsOf n (functions c.args.problem.now) c.args.pairs.now.pairs (variables n) (m + 1) c.index.result.now) limit whole)
    trimmed same within)

pub counts_of_layer-requires-clause-smaller : goal.counts_of_layer-requires-clause-smaller
counts_of_layer-requires-clause-smaller g c = λ k e.
    let given : Recurrence = record { problem = c.args.problem; pairs = c.args.pairs; widths = c.args.widths; limits = c.deref.result } in
    subst (AreCountsInLayer given k) (sym c.deref-in-loop-size.ensures.value)
    (subst (λ m. AreCountsInLayer given m c.loop-size.counts.items) (omega (arith, c.from.ensures)) c.loop-size.invariant)

pub counts_of_layer-requires-clause-given : goal.counts_of_layer-requires-clause-given
counts_of_layer-requires-clause-given g c =
    limited (record { problem = c.args.problem; pairs = c.args.pairs; widths = c.args.widths; limits = c.deref.result }) (c.min.result + 1)
    c.in_ok-limits.limits.items c.inputs-inputs.ensures.kept.few c.requires.few c.requires.widths c.in_ok-limits.ensures c.deref.ensures.value
    (omega (arith, c.min.ensures))
