-- The certificate that the lines of a text say.
--     read_pair ws, read_cell ws, numbers_of ws      the pair, the listed set, the numbers of a line
--     cert_of ws      the certificate that lines say
use Rattle.std.specs.Prelude.{ℕ, ◌+◌, if◌then◌else◌, nat_eq, List, [], ◌∷◌, length, map, take, drop, get_or}
use Rattle.definitions.specs.Pairs.{Pair}
use Rattle.definitions.specs.Certificates.{Certificate, Cell}
use Rattle.definitions.specs.Texts.{number_of}
use Rattle.certificate.specs.Faults.{mask_of, number_said, pairs_judges}

-- the numbers of a line after its first word
abbrev pub numbers_of : List (List ℕ) → List ℕ
numbers_of [] = []
numbers_of (word ∷ numbers) = map number_of numbers

-- the pair and the listed set of a line
abbrev pub read_pair : List (List ℕ) → Pair
read_pair ws = (number_of (get_or ws 0 []), number_of (get_or ws 1 []))

abbrev pub read_cell : List (List ℕ) → Cell
read_cell ws = record { mask = mask_of (get_or ws 0 []); cost = number_of (get_or ws 1 []) }

abbrev pub mask_key : Cell → ℕ
mask_key cell = cell.mask

-- the entries after line at
abbrev pub section_said : {E : Type 0} → (List (List ℕ) → E) → List (List (List ℕ)) → ℕ → List E
section_said read ws at = map read (take (number_said ws at) (drop (at + 1) ws))

-- the number of the line, counted from 0, that says how many sets are listed
abbrev pub cells_place : List (List (List ℕ)) → ℕ
cells_place ws = 6 + length (pairs_judges ws)

-- the certificate that lines say
abbrev pub cert_of : List (List (List ℕ)) → Certificate
cert_of ws = record {
  format = number_said ws 0;
  inputs = number_said ws 1;
  outputs = number_said ws 2;
  order = numbers_of (get_or ws 3 []);
  levels = numbers_of (get_or ws 4 []);
  total = number_said ws 5;
  pairs = (if nat_eq (number_said ws 0) 1 then [] else section_said read_pair ws 6);
  cells = section_said read_cell ws (cells_place ws);
}
