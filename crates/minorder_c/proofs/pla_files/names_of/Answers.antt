use Rattle.std.proofs.Common.{◌-◌, ◌++◌, ℕ, List, replicate, ap, ◌∙◌}
use Rattle.std.proofs.lemmas.List.{take_all}
use Rattle.pla_reader.specs.declared.places.TextPlace.{TextPlace}
use Rattle.minorder_c.specs.Read.{no_name}
use Rattle.minorder_c.proofs.NamePlaces.{names_few}
use Rattle.minorder_c.proofs.pla_files.names_of.Goals as goal

pub returns-clause-names : goal.returns-clause-names
returns-clause-names c =
    let places = c.in_ok-places.places in
    let few = names_few c.args.names c.args.text.now c.args.cover.now places.items c.requires
    (c.covers_are_well_formed.ensures c.args.text.now c.args.cover.now c.requires) c.in_ok-places.ensures in
    record {
      named = places.items;
      at = c.in_ok-places.ensures;
      rest = c.in_ok-resize.ensures.items ∙ ap (λ (xs : List TextPlace). xs ++ replicate (16 - places.len) no_name) (take_all 16 places.items few)
          ∙ ap (λ (n : ℕ). places.items ++ replicate (16 - n) no_name) places.ok.0;
    }
