use Rattle.std.proofs.Common.{◌∙◌, ap, map}
use Rattle.definitions.specs.RefNumbers.{ref_named}
use Rattle.sifting.proofs.build.split.Goals as goal

pub returns : goal.returns
returns c =
    record {
      codes = c.number_halves.new.codes.keys;
      split = c.in_ok-number_halves.ensures;
      next_is = c.in_ok-next.ensures ∙ ap (map ref_named) c.as_slice.ensures.keys;
    }
