use Rattle.std.proofs.Common.{IsNone, IsFalse, ◌↔◌, subst}
use Rattle.definitions.specs.Orders.{has}
use Rattle.subset_layers.specs.Layers.{masks_of}
use Rattle.subset_layers.proofs.BlockLists.{position_none}
use Rattle.subset_layers.proofs.layers.Layer.position.Goals as goal

pub returns-clause-none : goal.returns-clause-none
returns-clause-none c =
    subst (λ l. IsNone c.position.result ↔ IsFalse (has (masks_of l) c.args.mask)) c.self.view_is
    (subst (λ xs. IsNone c.position.result ↔ IsFalse (has xs c.args.mask)) c.self.invariant.masks_are
    (position_none c.position.result c.self.inside.masks.numbers.items c.args.mask c.position.ensures.found c.position.ensures.none))
