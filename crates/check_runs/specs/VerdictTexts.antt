-- The lines of verdicts.
--     valid_line cert, invalid_line reason      the verdict on a certificate
use Rattle.std.specs.Prelude.{ℕ, zero, suc, List, [], ◌∷◌, ◌++◌, length, codes, decimal}
use Rattle.definitions.specs.Certificates.{Certificate, Reason, Shape, Order, Pairs, Levels, Total, Start, CellTooBig, Edge}
use Rattle.certificate.specs.Spelling.{hex4}

-- how many pairs a certificate has, if it has any
abbrev pub pairs_words : ℕ → List ℕ
pairs_words zero = []
pairs_words (suc q) = codes " pairs " ++ decimal (suc q)

-- the line of a certificate that is good
abbrev pub valid_line : Certificate → List ℕ
valid_line cert = codes "valid " ++ decimal cert.total ++ pairs_words (length cert.pairs) ++ codes "\n"

-- the words of a reason
abbrev pub reason_words : Reason → List ℕ
reason_words Shape = codes "Shape"
reason_words Order = codes "Order"
reason_words Pairs = codes "Pairs"
reason_words Levels = codes "Levels"
reason_words Total = codes "Total"
reason_words Start = codes "Start"
reason_words CellTooBig = codes "CellTooBig"
reason_words (Edge mask x) = codes "Edge " ++ hex4 mask ++ 32 ∷ decimal x

-- the line of a certificate that is not good
abbrev pub invalid_line : Reason → List ℕ
invalid_line reason = codes "invalid " ++ reason_words reason ++ codes "\n"
