use Rattle.std.proofs.Common.{◌%◌, map, nat_eq, arith, ap, ◌∙◌}
use Rattle.std.specs.List.{range_with_len, list_any}
use Rattle.std.proofs.lemmas.List.FromFn.{length-map-range_with_len}
use Rattle.subset_layers.specs.Selections.{chosen}
use Rattle.subset_layers.proofs.BlockLists.{masks_chosen, lows_chosen}
use Rattle.definitions.proofs.Bits.Masks.{power_small}
use Rattle.subset_layers.proofs.layers.Layer.of.Goals as goal

pub of-requires : goal.of-requires
of-requires c = grind (arith, length-map-range_with_len, power_small)

pub invariant_of-result : goal.invariant_of-result
invariant_of-result c =
    let masks =
    masks_chosen c.args.inputs c.args.size c.in_ok-flags.flags.items c.in_ok-masks.masks.numbers.items c.in_ok-flags.ensures
    (c.in_ok-masks.ensures ∙ ap chosen c.deref.ensures.value) in
    record {
      few_inputs = c.requires;
      masks_are = masks;
      lows_are = lows_chosen c.args.inputs c.args.size c.in_ok-low_flags.low_flags.items c.in_ok-masks.masks.numbers.items c.in_ok-lows.lows.numbers.items masks
          (c.in_ok-low_flags.ensures ∙ ap (λ ms. map (λ low. list_any (λ mask. nat_eq (mask % 256) low) ms) (range_with_len 0 256)) c.deref-2.ensures.value)
          (c.in_ok-lows.ensures ∙ ap chosen c.deref-3.ensures.value);
    }
