use Rattle.std.proofs.Common.{◌≡◌, ◌++◌, map, take, string_bytes}
use Rattle.std.specs.List.{flat_map}
use Rattle.definitions.specs.Listed.{listed}
use Rattle.certificate.specs.Spelling.{text_line, cell_words}
use Rattle.certificate.proofs.texts.push_cells.Given as goal

abbrev pub invariant-loop-cell : goal.invariant-loop-cell
invariant-loop-cell l = string_bytes l.text ≡ string_bytes l.fn.text ++ flat_map text_line (map cell_words (map listed (take l.cell-index l.fn.cells)))
