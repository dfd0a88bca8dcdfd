use Rattle.std.proofs.Common.{◌++◌, map, take, ap, ◌∙◌, arith}
use Rattle.std.specs.List.{flat_map}
use Rattle.std.proofs.lemmas.List.{take_all}
use Rattle.definitions.specs.Functions.{weight}
use Rattle.definitions.specs.Problems.{table_in}
use Rattle.subfunction_classes.specs.Values.{row, values_of}
use Rattle.subfunction_classes.proofs.StartClasses.{rows_more}
use Rattle.small_search.proofs.values.push_points.Goals as goal

pub loop-output-preserved : goal.loop-output-preserved
loop-output-preserved c =
    c.in_ok-push_values.ensures
    ∙ (λ i. c.loop-output.invariant i ++ map weight
    (row (c.inputs.ensures.value i) (table_in (c.inputs.ensures.value i) c.words.result.now)))
    ∙ ap (λ t. map weight (flat_map (row c.args.search.now.problem.inputs) (take c.loop-output.output c.args.search.now.problem.tables)) ++ map weight
    (row c.args.search.now.problem.inputs t))
    c.words.ensures.table
    ∙ rows_more weight c.args.search.now.problem.inputs c.args.search.now.problem.tables c.loop-output.output
    (let s = c.outputs-output-end.ensures.value in omega arith)

pub returns : goal.returns
unfolding values_of
returns c =
    c.loop-output.invariant
    ∙ ap (λ ts. map weight (flat_map (row c.args.search.now.problem.inputs) ts))
    (take_all c.loop-output.output c.args.search.now.problem.tables (let s = c.outputs-output-end.ensures.value in omega arith))
