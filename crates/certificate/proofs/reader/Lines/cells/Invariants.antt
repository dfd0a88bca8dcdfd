use Rattle.std.proofs.Common.{◌≤◌, ◌-◌, ◌^◌, refl, map, length, codes}
use Rattle.definitions.specs.Listed.{listed}
use Rattle.certificate.specs.Faults.{is_cell, cell_key_of}
use Rattle.certificate.specs.Reading.{FitsCount, StaysWithin}
use Rattle.certificate.specs.Decoded.{read_cell, mask_key}
use Rattle.certificate.proofs.LineSteps.{Reached}
use Rattle.certificate.proofs.reader.Lines.cells.Given as goal

abbrev pub invariant-loop-n : goal.invariant-loop-n
invariant-loop-n l = record {
  reached : Reached read_cell mask_key (codes "cells") (2 ^ l.fn.n - 1) (is_cell l.fn.n) cell_key_of (λ a b. refl) l.fn.self.number
      l.fn.self.rest.now l.count (length l.cells.items) l.last (map listed l.cells.items) l.self.number l.self.rest.now;
  few : length l.cells.items ≤ l.count;
  small : FitsCount l.self;
  bound : StaysWithin l.fn.self l.self;
}

abbrev pub decreases-loop-n : goal.decreases-loop-n
decreases-loop-n l = l.count - length l.cells.items
