use Rattle.std.proofs.Common.{◌+◌, ap, ◌∙◌, subst, arith}
use Rattle.definitions.specs.Orders.{members}
use Rattle.definitions.specs.KeptPairs.{CanBeKept, KeptPairs}
use Rattle.definitions.specs.Cells.{first_of}
use Rattle.definitions.specs.declared.limits.Limit.{Limit}
use Rattle.subset_layers.proofs.CellSteps.{pair_of}
use Rattle.layer_core.proofs.CellsByNeeds.{pruned_is, some_order}
use Rattle.layer_core.proofs.instance.Instance.pruned_cell.Goals as goal

pub returns : goal.returns
returns c =
    let t = c.args.self.now in
    let n = t.problem.inputs in
    let q = c.pairs.result.now in
    let o = some_order q.inputs n t.pairs.pairs c.pairs.ensures.inputs
    (subst (λ (k : KeptPairs). CanBeKept q.inputs k.pairs) c.pairs.ensures.value c.inputs.ensures.kept) in
    c.clipped_cell.ensures n c.requires.within
    ∙ ap (λ (l : Limit). pair_of (l.bound + 1) (first_of (members n c.args.mask))) c.limit.ensures.value
    ∙ pruned_is t c.args.mask o.0 o.1 o.2 c.requires.some (omega arith) c.requires.within c.requires.none
