use Rattle.std.proofs.Common.{◌+◌, List, count_ones, sym, subst, arith}
use Rattle.subset_layers.specs.declared.costs.Cell.{Cell}
use Rattle.solutions.specs.Bounded.{AreFirstCells}
use Rattle.solutions.proofs.FlatLists.{first_more}
use Rattle.solutions.proofs.Layers.{cell_found, ones_le, ones_some, set_there}
use Rattle.solutions.proofs.all_cells.by_mask.Goals as goal

pub layer_of-layer-requires-clause-few : goal.layer_of-layer-requires-clause-few
layer_of-layer-requires-clause-few c = grind (arith, ones_le)

pub unwrap-requires : goal.unwrap-requires
unwrap-requires c = grind (arith, set_there, ones_some)

pub loop-number-preserved : goal.loop-number-preserved
loop-number-preserved c =
    let t = c.args.instance.now in
    let l = c.loop-number in
    subst (λ (us : List Cell). AreFirstCells t (l.number + 1) us) (sym c.in_ok-push-2.ensures.items)
    (first_more t l.number l.cells.items l.invariant c.unwrap.result l.auto.number
    (cell_found t (count_ones l.number) l.number c.layer_of-layer.result.now c.cell_of.result c.unwrap.result c.layer_of-layer.ensures
    c.cell_of.ensures.exact c.unwrap.ensures))
