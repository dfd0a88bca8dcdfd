use Rattle.std.proofs.Common.{◌++◌, map, take, ap, ◌∙◌, arith}
use Rattle.std.specs.List.{flat_map}
use Rattle.std.proofs.lemmas.List.{take_all}
use Rattle.definitions.specs.Problems.{value_at, table_in}
use Rattle.subfunction_classes.specs.Values.{number_of, row, values_of}
use Rattle.subfunction_classes.proofs.StartClasses.{rows_more}
use Rattle.subfunction_classes.proofs.values.value_numbers.Goals as goal

pub loop-output-preserved : goal.loop-output-preserved
loop-output-preserved c =
    c.in_ok-push_values.ensures
    ∙ (λ i. c.loop-output.invariant i
    ++ map (number_of (c.value-first.ensures i))
    (row (c.inputs-in-loop-output.ensures.value i) (table_in (c.inputs-in-loop-output.ensures.value i) c.words.result.now)))
    ∙ ap (λ t. map (number_of (value_at c.args.problem.now 0 0))
    (flat_map (row c.args.problem.now.inputs) (take c.loop-output.output c.args.problem.now.tables))
    ++ map (number_of (value_at c.args.problem.now 0 0)) (row c.args.problem.now.inputs t))
    c.words.ensures.table
    ∙ rows_more (number_of (value_at c.args.problem.now 0 0)) c.args.problem.now.inputs c.args.problem.now.tables c.loop-output.output
    (let s = c.outputs-outputs.ensures.value in omega arith)

pub returns-clause-numbers : goal.returns-clause-numbers
unfolding values_of
returns-clause-numbers c =
    c.loop-output.invariant
    ∙ ap (λ ts. map (number_of (value_at c.args.problem.now 0 0)) (flat_map (row c.args.problem.now.inputs) ts))
    (take_all c.loop-output.output c.args.problem.now.tables (let s = c.outputs-outputs.ensures.value in omega arith))
