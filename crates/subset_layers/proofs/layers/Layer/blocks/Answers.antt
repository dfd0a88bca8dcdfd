use Rattle.std.proofs.Common.{◌≡◌, length, sym, ap, ◌∙◌, arith, vec_len}
use Rattle.subset_layers.specs.Layers.{low_bytes}
use Rattle.subset_layers.proofs.BlockLists.{blocks_length}
use Rattle.subset_layers.proofs.layers.Layer.blocks.Goals as goal

pub returns : goal.returns
returns c =
    let e : vec_len c.self.inside.lows.numbers ≡ length c.self.inside.lows.numbers.items = omega arith in
    c.len.ensures ∙ e ∙ ap length c.self.invariant.lows_are ∙ ap (λ l. length (low_bytes l)) c.self.view_is ∙ sym (blocks_length c.args.self.now)
