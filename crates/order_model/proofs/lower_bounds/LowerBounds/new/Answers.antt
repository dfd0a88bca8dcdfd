use Rattle.std.proofs.Common.{◌≡◌, ◌<◌, ◌≤◌, bit_or, length, map, take, ap, ◌∙◌, arith}
use Rattle.std.specs.List.{fold}
use Rattle.std.proofs.lemmas.List.{length-set}
use Rattle.definitions.specs.Problems.{functions}
use Rattle.definitions.specs.Widths.{essential_mask}
use Rattle.definitions.specs.LowerBounds.{support, functions_with, functions_without}
use Rattle.definitions.proofs.Bits.LowerBounds.{entry_written, count_is, union_of_all, union_without_is}
use Rattle.order_model.proofs.lower_bounds.LowerBounds.new.Goals as goal

pub loop-x-preserved : goal.loop-x-preserved
loop-x-preserved c =
    let n = c.args.problem.now.inputs in
    let F = functions c.args.problem.now in
    let x = c.loop-x.x in
    let sets : c.split_at.result.0.now ≡ map (support c.args.problem.now.inputs) (functions c.args.problem.now) =
    c.split_at.ensures.front ∙ ap (λ k. take k c.supports-found.result) c.outputs.ensures.value ∙ c.supports-found.ensures in
    let inside : c.loop-x.x < c.args.problem.now.inputs = omega arith in
    record {
      dependents_long = length-set c.loop-x.dependents x c.count_with.result ∙ c.loop-x.invariant.dependents_long;
      others_long = length-set c.loop-x.others x c.union_without.result ∙ c.loop-x.invariant.others_long;
      dependents = entry_written (λ y. length (functions_with n F y)) c.loop-x.dependents x c.count_with.result (omega arith)
          (c.count_with.ensures ∙ count_is n F x c.split_at.result.0.now inside sets) c.loop-x.invariant.dependents;
      others = entry_written (λ y. essential_mask n (functions_without n F y)) c.loop-x.others x c.union_without.result (omega arith)
          (c.union_without.ensures ∙ union_without_is n F x c.split_at.result.0.now inside sets) c.loop-x.invariant.others;
    }

pub invariant_of-result : goal.invariant_of-result
invariant_of-result c =
    let n = c.args.problem.now.inputs in
    let F = functions c.args.problem.now in
    let sets = c.split_at.ensures.front ∙ ap (λ k. take k c.supports-found.result) c.outputs.ensures.value ∙ c.supports-found.ensures in
    let all : c.args.problem.now.inputs ≤ c.loop-x.x = omega arith in
    record {
      few = omega arith;
      essential_is = c.union_of.ensures ∙ ap (fold bit_or 0) sets ∙ union_of_all n F;
      dependents_are = λ x lt. c.loop-x.invariant.dependents x (omega (arith, lt, all));
      others_are = λ x lt. c.loop-x.invariant.others x (omega (arith, lt, all));
    }
