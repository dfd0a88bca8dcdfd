use Rattle.pla_reader.proofs.RowLemmas.{IsAt}
use Rattle.pla_reader.proofs.terms.row.Given as goal

abbrev pub invariant-loop-b : goal.invariant-loop-b
invariant-loop-b l = IsAt l.takes_dont_cares l.n l.m l.line l.b-index l.at l.masks
