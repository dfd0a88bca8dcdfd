use Rattle.std.proofs.Common.{◌≡◌, ◌≢◌, ◌∙◌, subst}
use Rattle.definitions.specs.KeptPairs.{CanBeKept, KeptPairs}
use Rattle.subset_layers.specs.Costs.{as_pair}
use Rattle.layer_core.specs.Needs.{needed}
use Rattle.layer_core.proofs.CellsByNeeds.{cell_is, some_needed, some_order}
use Rattle.layer_core.proofs.instance.Instance.cell.Goals as goal

pub lawful_cell-requires-clause-some : goal.lawful_cell-requires-clause-some
lawful_cell-requires-clause-some c = some_needed c.args.self.now c.args.mask (λ e. c.requires.some (c.requires.needs.members_are ∙ e))

pub returns : goal.returns
returns c =
    let t = c.args.self.now in
    let q = c.pairs.result.now in
    let o = some_order q.inputs t.problem.inputs t.pairs.pairs c.pairs.ensures.inputs
    (subst (λ (k : KeptPairs). CanBeKept q.inputs k.pairs) c.pairs.ensures.value c.inputs-inputs.ensures.kept) in
    cell_is t c.args.mask c.args.needs.now c.args.widths.now (as_pair c.lawful_cell.result) c.lower_bounds.result.now c.limit-bound.result
    c.lower_bounds.ensures c.limit-bound.ensures.value o.0 o.1 o.2 c.requires.needs (λ e. c.requires.some (c.requires.needs.members_are ∙ e))
    c.requires.widths c.lawful_cell.ensures
