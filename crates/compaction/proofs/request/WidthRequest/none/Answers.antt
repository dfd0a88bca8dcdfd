use Rattle.compaction.proofs.WantedSets.{none_wanted}
use Rattle.std.proofs.Common.{arith}
use Rattle.compaction.proofs.request.WidthRequest.none.Goals as goal

pub invariant_of-result-clause-request : goal.invariant_of-result-clause-request
invariant_of-result-clause-request c =
    let s = c.saturating_sub.ensures in
    none_wanted c.args.inputs c.args.low c.saturating_sub.result c.in_ok-vec.field-0.items c.requires.inputs (omega arith) c.requires.low (omega (arith, s))
    (c.in_ok-vec.ensures.items_if_clones_equal (λ y e. e))
