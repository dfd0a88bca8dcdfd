use Rattle.std.proofs.Common.{ℕ, refl, sym, ap, ◌∙◌, subst, arith}
use Rattle.std.proofs.lemmas.List.{length-map}
use Rattle.definitions.specs.Functions.{from_table}
use Rattle.definitions.specs.Orders.{IsOrder}
use Rattle.definitions.specs.Problems.{functions, outputs_of}
use Rattle.truth_table.specs.Assignments.{assignments, values_at}
use Rattle.truth_table.proofs.LeafClasses.{start_tells}
use Rattle.truth_table.proofs.LevelSteps.{level_step, counts_whole, few_classes}
use Rattle.truth_table.proofs.tables.Tables.widths_of.Goals as goal

pub write_values-requires : goal.write_values-requires
write_values-requires c =
    subst (IsOrder c.args.self.now.inputs) (sym c.variables.ensures.value)
    (subst (λ (m : ℕ). IsOrder m c.args.order.now) c.requires c.variables.ensures.order)

pub loop-level-init : goal.loop-level-init
loop-level-init c =
    let n = c.args.self.now.inputs in
    let order = c.args.order.now in
    let o : IsOrder n order = subst (λ (m : ℕ). IsOrder m order) c.requires c.variables.ensures.order in
    let long = c.len-n.ensures.value in
    record {
      tells = start_tells n order c.args.self.now.tables c.len-n.result (assignments order) c.write_values.new.values.items o (omega arith) refl
          (c.in_ok-write_values.ensures.values.values_are ∙ ap (λ xs. values_at (assignments xs) c.args.self.now.tables) c.variables.ensures.value);
      long = grind arith;
      counted = λ i a b. absurd (omega arith);
    }

pub merge-requires : goal.merge-requires
merge-requires c =
    let F = functions c.args.self.now in
    let outputs = length-map c.args.self.now.tables from_table in
    let view = ap outputs_of c.self.view_is in
    let few = few_classes c.args.self.now.inputs F c.args.order.now c.loop-level.level c.loop-level.classes.items (omega arith)
    (omega arith) (omega arith) c.loop-level.invariant.tells in
    record { few = omega arith }

pub loop-level-preserved : goal.loop-level-preserved
loop-level-preserved c =
    let long = c.len-n.ensures.value in
    let step = level_step c.args.self.now.inputs (functions c.args.self.now) c.args.order.now c.loop-level.level c.loop-level.classes.items
    c.deref.result.now c.in_ok-above.above.numbers.items
    c.loop-level.counts.items c.in_ok-above.above.unequal c.loop-level-test.true (omega arith) c.loop-level.invariant.tells
    c.deref.ensures.value c.in_ok-above.ensures.numbers c.in_ok-above.ensures.unequal
    c.loop-level.invariant.long c.loop-level.invariant.counted in
    record { tells = step.0; long = step.1; counted = step.2 }

pub returns : goal.returns
returns c = grind (arith, counts_whole)
