use Rattle.std.proofs.Common.{◌≡◌, slice_get, Some, sym, ap, ◌∙◌, arith}
use Rattle.subset_layers.specs.Layers.{layer_with, blocks_of}
use Rattle.subset_layers.proofs.BlockLists.{block_inside, default_free, low_fits, block_at, slice_get_at}
use Rattle.subset_layers.proofs.layers.Layer.block.Goals as goal

pub index-requires : goal.index-requires
index-requires c = grind (arith, block_inside)

pub with_low-requires-clause-low : goal.with_low-requires-clause-low
with_low-requires-clause-low c = grind (arith, block_inside, default_free, low_fits)

pub with_low-requires-clause-below : goal.with_low-requires-clause-below
with_low-requires-clause-below c = grind (arith, block_inside, default_free, low_fits)

pub returns : goal.returns
returns c =
    let h = block_inside (layer_with c.self.inside.inputs c.self.inside.size) c.args.self.now c.self.inside.lows.numbers.items c.args.i
    c.self.view_is c.self.invariant.lows_are c.requires in
    let at : slice_get c.self.inside.lows.numbers.items c.args.i ≡ Some c.index.result.now =
    slice_get_at c.self.inside.lows.numbers.items c.args.i h
    ∙ ap Some (sym (default_free c.self.inside.lows.numbers.items c.args.i c.index.result.now h c.index.ensures)) in
    ap (λ l. slice_get (blocks_of l) c.args.i) (sym c.self.view_is)
    ∙ block_at (layer_with c.self.inside.inputs c.self.inside.size) c.args.i c.index.result.now
    (ap (λ xs. slice_get xs c.args.i) (sym c.self.invariant.lows_are) ∙ at)
    ∙ ap Some (sym c.with_low.ensures)
