use Rattle.std.proofs.Common.{length, sym, ap, ◌∙◌, arith}
use Rattle.std.proofs.lemmas.List.FromFn.{length-range_with_len, length-map-range_with_len}
use Rattle.definitions.specs.Levels.{level_counts, level_count}
use Rattle.definitions.specs.Problems.{functions}
use Rattle.report_texts.proofs.counts.file_order_counts.Goals as goal

pub widths_of-requires : goal.widths_of-requires
widths_of-requires g c =
    ap length c.in_ok-order.ensures ∙ length-range_with_len 0 c.inputs.result ∙ c.inputs.ensures.value ∙ sym c.in_ok-tables.ensures.inputs

pub returns-clause-few : goal.returns-clause-few
unfolding level_counts
returns-clause-few g c =
    let order_long = ap length c.in_ok-order.ensures ∙ length-range_with_len 0 c.inputs.result in
    let l = ap length c.in_ok-counts.ensures
    ∙ length-map-range_with_len (level_count c.in_ok-tables.tables.inputs (functions c.in_ok-tables.tables) c.in_ok-order.order) 0
    (length c.in_ok-order.order) in
    let few = c.inputs.ensures.few in
    omega arith
