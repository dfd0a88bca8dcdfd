use Rattle.order_counts.proofs.Partial.{figures_more}
use Rattle.std.proofs.Common.{◌≡◌, ◌*◌, ◌-◌, ◌%◌, ◌^◌, [], ◌∷◌, ◌++◌, false, eq-eqb, List, length, slice_index_or, sym, ap, ap₂, ◌∙◌, subst, arith, ◌+◌}
use Rattle.std.proofs.lemmas.Bool.{true≢false}
use Rattle.std.proofs.lemmas.Nat.{one_shl, pow_pos}
use Rattle.definitions.specs.Problems.{functions}
use Rattle.definitions.specs.Orders.{members}
use Rattle.definitions.specs.Pairs.{is_lawful}
use Rattle.definitions.proofs.Precedence.Cycles.{acyclic_kept}
use Rattle.definitions.proofs.Widths.AllOrders.{members_all, members_none}
use Rattle.order_counts.specs.Figures.{AreFiguresOf, AreFiguresBelow}
use Rattle.order_counts.specs.declared.figures.Figures.{Figures}
use Rattle.order_counts.proofs.Whole.{figures_empty, figures_of_all, figures_unlawful, lawful_without}
use Rattle.order_counts.proofs.figures.figures_of_orders.Goals as goal
use Rattle.order_counts.proofs.figures.figures_of_orders.Goals.{then-lawful, else-lawful, then-all_lawful, else-all_lawful}

pub loop-set-init : goal.loop-set-init
loop-set-init c =
    let made = c.without_nodes.ensures in
    let items = c.in_ok-push.ensures.items ∙ ap (λ xs. xs ++ c.without_nodes.result ∷ []) c.in_ok-figures.ensures.items in
    record {
      long = ap length items;
      each = λ mask s lt.
          let zero : mask ≡ 0 = omega arith in
          subst (λ k. AreFiguresOf c.args.pairs.now.inputs (functions c.args.problem.now) c.args.pairs.now.pairs (members c.args.pairs.now.inputs k)
          (slice_index_or c.push.new.self.items k s)) (sym zero)
          (subst (λ xs. AreFiguresOf c.args.pairs.now.inputs (functions c.args.problem.now) c.args.pairs.now.pairs (members c.args.pairs.now.inputs 0)
          (slice_index_or xs 0 s)) (sym items)
          (subst (λ S. AreFiguresOf c.args.pairs.now.inputs (functions c.args.problem.now) c.args.pairs.now.pairs S c.without_nodes.result)
          (sym (members_none c.args.pairs.now.inputs))
          (figures_empty c.args.pairs.now.inputs (functions c.args.problem.now) c.args.pairs.now.pairs c.without_nodes.result made.count made.total
          made.fewest made.most)));
    }

pub returns : goal.returns
returns c =
    let n = c.args.pairs.now.inputs in
    let P = c.args.pairs.now.pairs in
    let kept = c.inputs.ensures.kept in
    let order = acyclic_kept n P kept.below kept.acyclic in
    let few = kept.few in
    let sets : 1 * 2 ^ c.inputs.result % 18446744073709551616 ≡ 2 ^ c.args.pairs.now.inputs =
    one_shl c.inputs.result 64 (omega (arith, few, c.inputs.ensures.value)) ∙ ap (λ k. 2 ^ k) c.inputs.ensures.value in
    let done : c.loop-set.set ≡ 2 ^ c.args.pairs.now.inputs = omega (arith, c.loop-set-test.false, c.loop-set.auto.set-end, sets, pow_pos n) in
    let last = c.loop-set.invariant.each (1 * 2 ^ c.inputs.result % 18446744073709551616 - 1) c.index.result.now (omega (arith, done, sets, pow_pos n)) in
    let whole = subst (λ k. AreFiguresOf n (functions c.args.problem.now) P (members n (k - 1)) c.index.result.now) sets
    (subst (AreFiguresOf n (functions c.args.problem.now) P (members n (1 * 2 ^ c.inputs.result % 18446744073709551616 - 1))) (sym c.index.ensures) last) in
    figures_of_all n (functions c.args.problem.now) P order.0 order.2.is_order order.2.kept c.index.result.now
    (subst (λ S. AreFiguresOf n (functions c.args.problem.now) P S c.index.result.now) (members_all n) whole)

pub figures_of_set-requires-clause-lawful : goal.figures_of_set-requires-clause-lawful
figures_of_set-requires-clause-lawful c =
    elim c.if-all_lawful.branch [
      | then-all_lawful v ↦
          lawful_without c.args.pairs.now.pairs (members c.args.pairs.now.inputs c.loop-set.set) (sym c.count-all_lawful.ensures.value ∙ v.if-all_lawful.true)
      | else-all_lawful v ↦ sym v.lawful-lawful.ensures ∙ sym v.lawful-is ∙ c.if-lawful.true
    ]

pub loop-set-preserved : goal.loop-set-preserved
loop-set-preserved c =
    let n = c.args.pairs.now.inputs in
    let F = functions c.args.problem.now in
    let P = c.args.pairs.now.pairs in
    elim c.if-lawful.branch [
      | then-lawful w ↦
          let items = c.in_ok-push-2.ensures.items ∙ ap₂ (λ (xs : List Figures) (y : Figures). xs ++ y ∷ []) (ap (λ v. v.items) w.push-is) w.push2-is in
          subst (AreFiguresBelow n F P (c.loop-set.set + 1)) (sym items)
          (figures_more n F P c.loop-set.set c.loop-set.figures.items w.figures_of_set.result c.loop-set.invariant w.figures_of_set.ensures)
      | else-lawful w ↦
          let items = c.in_ok-push-2.ensures.items ∙ ap₂ (λ (xs : List Figures) (y : Figures). xs ++ y ∷ []) (ap (λ v. v.items) w.push-is) w.push2-is in
          let made = w.without_nodes-else-lawful.ensures in
          let unlawful : is_lawful c.args.pairs.now.pairs (members c.args.pairs.now.inputs c.loop-set.set) ≡ false =
          elim c.if-all_lawful.branch [
            | then-all_lawful v ↦ absurd (true≢false (sym (eq-eqb _ _ v.if-all_lawful.true) ∙ sym v.lawful-is ∙ w.if-lawful.false))
            | else-all_lawful v ↦ sym v.lawful-lawful.ensures ∙ sym v.lawful-is ∙ w.if-lawful.false
          ] in
          subst (AreFiguresBelow n F P (c.loop-set.set + 1)) (sym items)
          (figures_more n F P c.loop-set.set c.loop-set.figures.items w.without_nodes-else-lawful.result c.loop-set.invariant
          (figures_unlawful n F P c.loop-set.set w.without_nodes-else-lawful.result unlawful made.count made.total made.fewest made.most))
    ]
