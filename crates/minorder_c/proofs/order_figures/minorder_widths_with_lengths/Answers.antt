use Rattle.std.proofs.Common.{◌^◌, length, sym, ap, ◌∙◌}
use Rattle.minorder_c.specs.Answers.{functions_in}
use Rattle.minorder_c.proofs.ListedWidths.{listed_long}
use Rattle.minorder_c.proofs.order_figures.minorder_widths_with_lengths.Goals as goal

pub copy_from_slice-requires : goal.copy_from_slice-requires
copy_from_slice-requires c =
    let shape = c.has_widths_shape.ensures.0 c.if-not-has_widths_shape.false in
    shape.places_are ∙ sym (listed_long c.of-given.result.inputs (functions_in c.of-given.result) (2 ^ c.of-given.result.inputs))
    ∙ sym (ap length (c.deref.ensures.value ∙ c.in-Ok.ensures))
