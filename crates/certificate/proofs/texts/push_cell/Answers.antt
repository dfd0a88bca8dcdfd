use Rattle.std.proofs.Common.{◌++◌, ap, ◌∙◌, string_bytes, arith}
use Rattle.definitions.specs.Listed.{listed}
use Rattle.certificate.proofs.WrittenLines.{zero_padded, cell_written}
use Rattle.certificate.proofs.texts.push_cell.Goals as goal

pub returns : goal.returns
returns c =
    let in_digits = rw c.in_radix.ensures at (rw c.laid_out.ensures at c.in_ok-write.ensures.bytes) in
    let written = rw (zero_padded c.args.cell.mask (omega arith)) at in_digits in
    written ∙ ap (λ line. string_bytes c.args.text.now ++ line) (cell_written (listed c.args.cell))
