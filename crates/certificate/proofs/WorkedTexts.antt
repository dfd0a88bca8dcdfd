-- Worked texts, by computation.
use Rattle.std.proofs.Common.{◌≡◌, ℕ, refl, List, [], ◌∷◌, codes, Option, Some, None, map, slice_get}
use Rattle.std.specs.Fmt.{digits}
use Rattle.definitions.specs.Certificates.{Certificate}
use Rattle.certificate.specs.declared.faults.LineFault.{LineFault}
use Rattle.certificate.specs.declared.faults.LineFault.TheVariants.{MissingLine, BadLine, BadNumber, NotRising, TrailingText}
use Rattle.certificate.specs.Spelling.{hex4, word_lines, text_line, spelling}
use Rattle.certificate.specs.Faults.{whole_lines, words, judges, line_faults, trailing, faults}

abbrev first_of : List ℕ → Option (ℕ × LineFault)
first_of text = slice_get (faults text) 0

abbrev multiplexer : Certificate
multiplexer = record {
  format = 1;
  inputs = 3;
  outputs = 1;
  order = 2 ∷ 0 ∷ 1 ∷ [];
  levels = 1 ∷ 1 ∷ 1 ∷ [];
  total = 3;
  pairs = [];
  cells = record { mask = 0; cost = 0 } ∷ record { mask = 1; cost = 1 } ∷ record { mask = 2; cost = 1 } ∷ record { mask = 3; cost = 2 } ∷
      record { mask = 4; cost = 2 } ∷ [];
}

multiplexer_text : spelling multiplexer ≡ codes
    "bddorder-certificate 1\ninputs 3\noutputs 1\norder 2 0 1\nlevels 1 1 1\ntotal 3\ncells 5\n0000 0\n0001 1\n0002 1\n0003 2\n0004 2\nend\n"
unfolding hex4 digits word_lines text_line spelling
multiplexer_text = refl

-- and in format 2, where 0 has to stand above 2
abbrev above : Certificate
above = record {
  format = 2;
  inputs = 3;
  outputs = 1;
  order = 0 ∷ 2 ∷ 1 ∷ [];
  levels = 1 ∷ 2 ∷ 1 ∷ [];
  total = 4;
  pairs = (0, 2) ∷ [];
  cells = record { mask = 0; cost = 0 } ∷ record { mask = 2; cost = 1 } ∷ [];
}

above_text : spelling above ≡ codes
    "bddorder-certificate 2\ninputs 3\noutputs 1\norder 0 2 1\nlevels 1 2 1\ntotal 4\npairs 1\n0 2\ncells 2\n0000 0\n0002 1\nend\n"
unfolding hex4 digits word_lines text_line spelling
above_text = refl

first_faults : map first_of (
    (codes "bddorder-certificate 1\ninputs 3\noutputs 1\norder 2 0 1\nlevels 1 1 1\ntotal 3\ncells 5\n0000 0\n0001 1\n0002 1\n0003 2\n0004 2\nend\n")
    ∷ (codes "bddorder-certificate 2\ninputs 3\noutputs 1\norder 0 2 1\nlevels 1 2 1\ntotal 4\npairs 1\n0 2\ncells 2\n0000 0\n0002 1\nend\n")
    ∷ (codes "bddorder-certificate 1\ninputs 3\noutputs 1\norder 2 0 1\nlevels 1 1 1\ntotal 3\ncells 5\n0000 0\n0001 1\n0002 1\n0003 2\n0004 2\n")
    ∷ (codes "bddorder-certificate 1\ninputs 3\noutputs 1\norder 2 0 1\nlevels 1 1 1\ntotal 3\ncells 5\n0000 0\n0001 01\n0002 1\n0003 2\n0004 2\nend\n")
    ∷ (codes "bddorder-certificate 1\ninputs 3\noutputs 1\norder 2 0 1\nlevels 1 1 1\ntotal 3\ncells 5\n0000 0\n0002 1\n0001 1\n0003 2\n0004 2\nend\n")
    ∷ (codes "bddorder-certificate 1\ninputs 3\noutputs 1\norder 2 0 1\nlevels 1 1 1\ntotal 3\ncells 4\n0000 0\n0001 1\n0002 1\n0003 2\n0004 2\nend\n")
    ∷ (codes "bddorder-certificate 1\ninputs 3\noutputs 1\norder 2 0 1\nlevels 1 1 1\ntotal 3\ncells 8\n0000 0\n0001 1\n0002 1\n0003 2\n0004 2\nend\n")
    ∷ (codes "bddorder-certificate 1\ninputs 3\noutputs 1\norder 2 0 1\nlevels 1 1 1\ntotal 3\ncells 5\n0000 0\n0001 1\n0002 1\n0003 2\n0007 1\nend\n")
    ∷ (codes "bddorder-certificate 1\ninputs 3\noutputs 1\norder 2 0\nlevels 1 1 1\ntotal 3\ncells 5\n0000 0\n0001 1\n0002 1\n0003 2\n0004 2\nend\n")
    ∷ (codes "bddorder-certificate 1\ninputs 3\noutputs 1\norder 2 0 16\nlevels 1 1 1\ntotal 3\ncells 5\n0000 0\n0001 1\n0002 1\n0003 2\n0004 2\nend\n")
    ∷ (codes "bddorder-certificate 1\ninputs 3\noutputs 1\norder 2 0 15\nlevels 1 1 1\ntotal 3\ncells 5\n0000 0\n0001 1\n0002 1\n0003 2\n0004 2\nend\n")
    ∷ (codes "bddorder-certificate 1\ninputs 3\noutputs 1\norder 2 0 1\nlevels 1 1 1\ntotal 3\ncells 5\n0000 0\n0001 1\n0002 1\n0003 2\n0004 2\nend\nx")
    ∷ (codes "bddorder-certificate 1\ninputs 3\noutputs 1\norder 2 0 1\nlevels 1 1 1\ntotal 3\ncells 5\n0000 0\n0001 1\n0002 1\n0003 2\n0004 2\nend\n\n")
    ∷ (codes "")
    ∷ (codes "bddorder-certificate 1\ninputs  3\noutputs 1\norder 2 0 1\nlevels 1 1 1\ntotal 3\ncells 5\n0000 0\n0001 1\n0002 1\n0003 2\n0004 2\nend\n")
    ∷ (codes "bddorder-certificate 1\ninputs 3\noutputs 1\norder 2 0 1\nlevels 1 1 1\ntotal 3\ncells 5\n0000 0\n0001 1\n0002 1\n0003 2\n000A 2\nend\n")
    ∷ (codes "bddorder-certificate 01\ninputs 3\noutputs 1\norder 2 0 1\nlevels 1 1 1\ntotal 3\ncells 5\n0000 0\n0001 1\n0002 1\n0003 2\n0004 2\nend\n")
    ∷ (codes "bddorder-certificate 3\ninputs 3\noutputs 1\norder 2 0 1\nlevels 1 1 1\ntotal 3\ncells 5\n0000 0\n0001 1\n0002 1\n0003 2\n0004 2\nend\n")
    ∷ (codes "bddorder-certificate 2\ninputs 3\noutputs 1\norder 2 0 1\nlevels 1 1 1\ntotal 3\ncells 5\n0000 0\n0001 1\n0002 1\n0003 2\n0004 2\nend\n")
    ∷ (codes "bddorder-certificate 1\ninputs 3\noutputs 1\norder 0 2 1\nlevels 1 2 1\ntotal 4\npairs 1\n0 2\ncells 2\n0000 0\n0002 1\nend\n")
    ∷ (codes "bddorder-certificate 1\ninputs 3\noutputs 1\norder 2 0 1\nlevels 1 1 1\ntotal 1000000\ncells 5\n0000 0\n0001 1\n0002 1\n0003 2\n0004 2\nend\n")
    ∷ (codes "bddorder-certificate 1\ninputs 3\noutputs 1\norder 2 0 1\nlevels 1 1 1\ntotal 3\ncells 5\n0000 0\n0001 1\n0002 1\n0003 2\n0004 2\nend")
    ∷ (codes "bddorder-certificate 2\ninputs 3\noutputs 1\norder 0 2 1\nlevels 1 2 1\ntotal 4\npairs 1\n0 3\ncells 2\n0000 0\n0002 1\nend\n")
    ∷ (codes "bddorder-certificate 2\ninputs 3\noutputs 1\norder 0 2 1\nlevels 1 2 1\ntotal 4\npairs 0\ncells 2\n0000 0\n0002 1\nend\n")
    ∷ (codes "bddorder-certificate 2\ninputs 3\noutputs 1\norder 0 2 1\nlevels 1 2 1\ntotal 4\npairs 2\n0 2\n0 1\ncells 2\n0000 0\n0002 1\nend\n")
    ∷ (codes "bddorder-certificate 2\ninputs 3\noutputs 1\norder 0 2 1\nlevels 1 2 1\ntotal 4\npairs 2\n0 2\n0 2\ncells 2\n0000 0\n0002 1\nend\n")
    ∷ (codes "bddorder-certificate 2\ninputs 3\noutputs 1\norder 0 2 1\nlevels 1 2 1\ntotal 4\npairs 2\n0 2\n2 0\ncells 2\n0000 0\n0002 1\nend\n")
    ∷ (codes "bddorder-certificate 2\ninputs 3\noutputs 1\norder 0 2 1\nlevels 1 2 1\ntotal 4\npairs 1\n1 1\ncells 2\n0000 0\n0002 1\nend\n")
    ∷ (codes "bddorder-certificate 2\ninputs 3\noutputs 1\norder 0 2 1\nlevels 1 2 1\ntotal 4\npairs 241\n0 2\ncells 2\n0000 0\n0002 1\nend\n")
    ∷ (codes "bddorder-certificate 2\ninputs 3\noutputs 1\norder 0 2 1\nlevels 1 2 1\ntotal 4\npairs 2\n0 2\ncells 2\n0000 0\n0002 1\nend\n")
    ∷ (codes "bddorder-certificate 2\ninputs 3\noutputs 1\norder 0 2 1\nlevels 1 2 1\ntotal 4\npairs 1\n0 2 1\ncells 2\n0000 0\n0002 1\nend\n")
    ∷ []) ≡ None ∷ None ∷ Some (13, MissingLine) ∷ Some (9, BadNumber) ∷ Some (10, NotRising) ∷ Some (12, BadLine) ∷ Some (
      7,
      BadNumber,
    ) ∷ Some (12, BadNumber) ∷ Some (4, BadLine) ∷ Some (4, BadNumber) ∷ None ∷ Some (14, TrailingText) ∷ Some (
      14,
      TrailingText,
    ) ∷ Some (1, MissingLine) ∷ Some (2, BadLine) ∷ Some (12, BadNumber) ∷ Some (1, BadLine) ∷ Some (1, BadLine) ∷ Some (
      7,
      BadLine,
    ) ∷ Some (7, BadLine) ∷ Some (6, BadNumber) ∷ Some (13, MissingLine) ∷ Some (8, BadNumber) ∷ None ∷ Some (
      9,
      NotRising,
    ) ∷ Some (9, NotRising) ∷ None ∷ None ∷ Some (7, BadNumber) ∷ Some (9, BadNumber) ∷ Some (8, BadLine) ∷ []
unfolding hex4 digits whole_lines words judges line_faults trailing faults
first_faults = refl
