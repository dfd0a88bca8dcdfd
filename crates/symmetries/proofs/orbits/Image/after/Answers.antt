use Rattle.std.proofs.Common.{◌∙◌, ap, arith, slice_index}
use Rattle.symmetries.proofs.orbits.Image.after.Goals as goal

pub returns : goal.returns
returns c inside = record {
  set = grind arith;
  each = λ x l m. c.moved.ensures x l ∙ ap (λ us. slice_index us (slice_index c.args.self.variables x)) c.partners.ensures;
}
