-- Worked files, by computation.
use Rattle.std.proofs.Common.{◌≡◌, ℕ, refl, true, false, List, [], ◌∷◌, ◌++◌, codes, Option, Some, None, take, map, slice_get}
use Rattle.std.specs.Fmt.{digits}
use Rattle.std.specs.List.{flat_map, range_with_len}
use Rattle.definitions.specs.Functions.{points, table}
use Rattle.definitions.specs.Products.{matches, product_function, product_functions}
use Rattle.pla_reader.specs.declared.errors.LineFault.{LineFault}
use Rattle.pla_reader.specs.declared.errors.LineFault.TheVariants.{MissingHead, RepeatedHead, InputCount, OutputCount, BadNumber, NameCount, BadName, UnknownDirective, UnsupportedType, DontCare, BadInputChar, BadOutputChar, ShortTerm, LongTerm}
use Rattle.pla_reader.specs.Text.{lines_of, words, positions}
use Rattle.pla_reader.specs.Lines.{directive, meaning, line_said, said, description}
use Rattle.pla_reader.specs.Covers.{inputs_of, outputs_of, numbered_names, term_of, cover_of}
use Rattle.pla_reader.specs.Faults.{term_fault, fault_of}
use Rattle.pla_reader.specs.Reading.{judged, end_faults, faults}

-- the text of lines, each with its line feed
abbrev file : List (List ℕ) → List ℕ
file lines = flat_map (λ line. line ++ 10 ∷ []) lines

-- the first fault of an input, if it has one
abbrev first_of : List ℕ → Option (ℕ × LineFault)
first_of bytes = slice_get (faults (said bytes)) 0

-- that of lines, of one line alone, and of one line after the heads of three inputs and one output
abbrev first_of_lines : List (List ℕ) → Option (ℕ × LineFault)
first_of_lines lines = first_of (file lines)

abbrev first_line_alone : List ℕ → Option (ℕ × LineFault)
first_line_alone line = first_of line

abbrev after_heads : List ℕ → Option (ℕ × LineFault)
after_heads line = first_of_lines (codes ".i 3" ∷ codes ".o 1" ∷ line ∷ [])

-- the third line, after three inputs and one output
bad_terms : map after_heads (
    codes "01 1" ∷
    codes "0101 1" ∷
    codes "0x1 1" ∷
    codes "0x1" ∷
    codes "01" ∷
    codes "|" ∷
    codes "000 x" ∷
    codes "000 x1" ∷
    codes "000 -" ∷
    codes "000 2" ∷
    codes "000 -1" ∷
    codes "000 ~" ∷
    codes "0-2 1" ∷
    codes "0|1|2|1" ∷
    (codes "000 " ++ (12 ∷ [])) ∷
    ((12 ∷ []) ++ codes "000 1") ∷
    (codes "000 1" ++ (128 ∷ [])) ∷
    (11 ∷ []) ∷
    codes "0001 #0" ∷ []
    ) ≡ Some (3, ShortTerm) ∷ Some (3, LongTerm) ∷ Some (3, BadInputChar) ∷ Some (3, BadInputChar) ∷ Some (3, ShortTerm) ∷ Some (
      3,
      ShortTerm,
    ) ∷ Some (3, BadOutputChar) ∷ Some (3, BadOutputChar) ∷ Some (3, DontCare) ∷ Some (3, DontCare) ∷ Some (
      3,
      DontCare,
    ) ∷ None ∷ None ∷ None ∷ Some (3, BadOutputChar) ∷ Some (3, BadInputChar) ∷ Some (3, LongTerm) ∷ Some (
      3,
      BadInputChar,
    ) ∷ None ∷ []
unfolding lines_of words positions directive meaning line_said said description inputs_of outputs_of term_fault fault_of judged end_faults faults
bad_terms = refl

-- the third line, where it is a directive
directives : map after_heads (
    codes ".i 3" ∷
    codes ".i x" ∷
    codes ".o 17" ∷
    codes ".ilb a b" ∷
    (codes ".ilb a b " ++ (128 ∷ [])) ∷
    (codes ".ilb a " ++ (128 ∷ [])) ∷
    (codes ".ob " ++ (127 ∷ [])) ∷
    (codes ".ob " ++ (11 ∷ [])) ∷
    codes ".ilb a a a" ∷
    codes ".ob # f" ∷
    codes ".p" ∷
    codes ".p 0" ∷
    codes ".p 1 2" ∷
    codes ".p -1" ∷
    codes ".type f" ∷
    codes ".type fd" ∷
    codes ".type fr" ∷
    codes ".type" ∷
    codes ".type f f" ∷
    codes ".type F" ∷
    codes ".i3" ∷
    codes "." ∷
    codes ".E" ∷
    codes ".phase 1" ∷
    (codes " " ++ (9 ∷ []) ++ codes ".e#x") ∷
    codes ".end x y" ∷ []
    ) ≡ Some (3, RepeatedHead) ∷ Some (3, RepeatedHead) ∷ Some (3, RepeatedHead) ∷ Some (3, NameCount) ∷ Some (3, BadName) ∷ Some (
      3,
      NameCount,
    ) ∷ Some (3, BadName) ∷ Some (3, BadName) ∷ None ∷ Some (3, NameCount) ∷ Some (3, BadNumber) ∷ None ∷ Some (
      3,
      BadNumber,
    ) ∷ Some (3, BadNumber) ∷ None ∷ None ∷ Some (3, UnsupportedType) ∷ Some (3, UnsupportedType) ∷ Some (
      3,
      UnsupportedType,
    ) ∷ Some (3, UnsupportedType) ∷ Some (3, UnknownDirective) ∷ Some (3, UnknownDirective) ∷ Some (
      3,
      UnknownDirective,
    ) ∷ Some (3, UnknownDirective) ∷ None ∷ None ∷ []
unfolding lines_of words positions directive meaning line_said said description inputs_of outputs_of term_fault fault_of judged end_faults faults
directives = refl

counts : map first_line_alone (
    codes ".i 17" ∷
    codes ".i 0" ∷
    codes ".i" ∷
    codes ".i 1 2" ∷
    codes ".i +1" ∷
    codes ".o 0" ∷
    codes ".o 17" ∷
    codes ".i 0000000003" ∷
    codes ".ilb a" ∷
    codes ".ob f" ∷
    codes "1 1" ∷
    codes "|" ∷
    [] ∷
    codes "# .i 3" ∷
    codes ".e" ∷
    codes ".type x" ∷ []
    ) ≡ Some (1, InputCount) ∷ Some (1, InputCount) ∷ Some (1, BadNumber) ∷ Some (1, BadNumber) ∷ Some (1, BadNumber) ∷ Some (
      1,
      OutputCount,
    ) ∷ Some (1, OutputCount) ∷ Some (1, BadNumber) ∷ Some (1, MissingHead) ∷ Some (1, MissingHead) ∷ Some (
      1,
      MissingHead,
    ) ∷ Some (1, MissingHead) ∷ Some (0, MissingHead) ∷ Some (1, MissingHead) ∷ Some (1, MissingHead) ∷ Some (
      1,
      UnsupportedType,
    ) ∷ []
unfolding lines_of words positions directive meaning line_said said description inputs_of outputs_of term_fault fault_of judged end_faults faults
counts = refl

-- whole files
files : map first_of_lines (
    (codes ".i 2" ∷ codes ".o 2" ∷ codes ".type f" ∷ codes "1- 1-" ∷ codes "-1 -1" ∷ codes ".e" ∷ []) ∷
    (codes ".i 2" ∷ codes ".o 2" ∷ codes "1- 1-" ∷ codes "-1 -1" ∷ codes ".e" ∷ []) ∷
    (codes ".i 2" ∷ codes ".o 2" ∷ codes ".type fd" ∷ codes "1- 1-" ∷ []) ∷
    (codes ".i 17" ∷ codes ".o 1" ∷ codes ".e" ∷ []) ∷
    (codes ".i 16" ∷ codes ".o 1" ∷ codes ".e" ∷ []) ∷
    (codes ".i 000000003" ∷ codes ".o 1" ∷ []) ∷
    (codes ".i 2" ∷ codes ".i 2" ∷ codes ".o 1" ∷ codes ".e" ∷ []) ∷
    (codes ".i 2" ∷ codes ".o 1" ∷ codes ".type fr" ∷ codes ".e" ∷ []) ∷
    (codes ".i 2" ∷ codes ".o 1" ∷ codes ".phase 1" ∷ codes ".e" ∷ []) ∷
    (codes ".i 2" ∷ codes ".o 1" ∷ codes ".ilb a" ∷ codes ".e" ∷ []) ∷
    (codes ".i 1" ∷ codes ".o 1" ∷ codes "- 1" ∷ codes ".type f" ∷ []) ∷
    (codes ".i 1" ∷ codes ".o 1" ∷ codes ".type f" ∷ codes ".type x" ∷ []) ∷
    (codes ".i 1" ∷ codes ".o 1" ∷ codes ".ilb a" ∷ codes ".ilb a b" ∷ []) ∷
    (codes ".i 1" ∷ codes ".o 1" ∷ codes ".ob a" ∷ codes ".ob a" ∷ []) ∷
    (codes ".i 1" ∷ codes ".ob a" ∷ []) ∷
    (codes ".o 1" ∷ codes ".ob a" ∷ codes ".i 1" ∷ codes "1 1" ∷ codes ".ilb b" ∷ []) ∷
    (codes ".i 1" ∷ codes "1 1" ∷ codes ".o 1" ∷ []) ∷
    (codes ".i 1" ∷ codes ".o 1" ∷ codes ".p 7" ∷ codes ".p 8" ∷ []) ∷
    (codes ".i 1" ∷ codes ".e" ∷ codes ".o 1" ∷ []) ∷
    (codes ".i 1" ∷ [] ∷ codes "# only one head" ∷ []) ∷
    (codes "# no head" ∷ codes ".e" ∷ codes "junk" ∷ []) ∷
    (codes ".i 1" ∷ codes ".o 1" ∷ codes ".e" ∷ codes "junk" ∷ []) ∷
    ((codes ".i 2" ++ (13 ∷ [])) ∷ (codes ".o 2" ++ (13 ∷ [])) ∷ (codes ".p 99" ++ (13 ∷ [])) ∷ (codes "11|10" ++ (13 ∷ [])) ∷
    (codes "1-|01" ++ (13 ∷ [])) ∷ []) ∷ []
    ) ≡ None ∷ Some (3, DontCare) ∷ Some (4, DontCare) ∷ Some (1, InputCount) ∷ None ∷ None ∷ Some (2, RepeatedHead) ∷ Some (
      3,
      UnsupportedType,
    ) ∷ Some (3, UnknownDirective) ∷ Some (3, NameCount) ∷ Some (4, UnsupportedType) ∷ Some (4, RepeatedHead) ∷ Some (
      4,
      RepeatedHead,
    ) ∷ Some (4, RepeatedHead) ∷ Some (2, MissingHead) ∷ None ∷ Some (2, MissingHead) ∷ None ∷ Some (
      2,
      MissingHead,
    ) ∷ Some (3, MissingHead) ∷ Some (2, MissingHead) ∷ None ∷ None ∷ []
unfolding lines_of words positions directive meaning line_said said description inputs_of outputs_of term_fault fault_of judged end_faults faults
files = refl

-- the multiplexer: two products of the variables a, b and s
abbrev multiplexer : List ℕ
multiplexer = file (codes ".i 3" ∷ codes ".o 1" ∷ codes ".ilb a b s" ∷ codes ".ob f" ∷ codes "1-0 1" ∷ codes "-11 1" ∷ codes ".e" ∷ [])

-- each front of its file
multiplexer_fronts : map (λ k. first_of (take k multiplexer)) (range_with_len 0 43) ≡ Some (0, MissingHead) ∷ Some (1, UnknownDirective) ∷
    Some (1, BadNumber) ∷ Some (1, BadNumber) ∷ Some (1, MissingHead) ∷ Some (1, MissingHead) ∷ Some (2, UnknownDirective) ∷ Some
    (2, BadNumber) ∷ Some (2, BadNumber) ∷ None ∷ None ∷ Some (3, UnknownDirective) ∷ Some (3, RepeatedHead) ∷ Some (3, UnknownDirective) ∷
    Some (3, NameCount) ∷ Some (3, NameCount) ∷ Some (3, NameCount) ∷ Some (3, NameCount) ∷ Some (3, NameCount) ∷ Some (3, NameCount) ∷
    None ∷ None ∷ Some (4, UnknownDirective) ∷ Some (4, RepeatedHead) ∷ Some (4, NameCount) ∷ Some (4, NameCount) ∷ None ∷ None ∷ Some
    (5, ShortTerm) ∷ Some (5, ShortTerm) ∷ Some (5, ShortTerm) ∷ Some (5, ShortTerm) ∷ None ∷ None ∷ Some (6, ShortTerm) ∷ Some
    (6, ShortTerm) ∷ Some (6, ShortTerm) ∷ Some (6, ShortTerm) ∷ None ∷ None ∷ Some (7, UnknownDirective) ∷ None ∷ None ∷ []
unfolding lines_of words positions directive meaning line_said said description inputs_of outputs_of term_fault fault_of judged end_faults faults
multiplexer_fronts = refl

multiplexer_cover : cover_of (description (said multiplexer)) ≡ record {
  inputs = 3;
  outputs = 1;
  input_names = codes "a" ∷ codes "b" ∷ codes "s" ∷ [];
  output_names = codes "f" ∷ [];
  products = record { literals = Some true ∷ None ∷ Some false ∷ []; outputs = true ∷ [] } ∷ record
      { literals = None ∷ Some true ∷ Some true ∷ []; outputs = true ∷ [] } ∷ [];
}
unfolding lines_of words positions directive meaning line_said said description inputs_of outputs_of numbered_names term_of cover_of digits
multiplexer_cover = refl

multiplexer_table : map (table 3) (product_functions 1 (cover_of (description (said multiplexer))).products) ≡
    (false ∷ true ∷ false ∷ true ∷ false ∷ false ∷ true ∷ true ∷ []) ∷ []
unfolding lines_of words positions directive meaning line_said said description inputs_of outputs_of numbered_names term_of cover_of digits
    matches product_function product_functions points table
multiplexer_table = refl

-- type f with dashes, and names by default
dashes_cover : cover_of (description (said (file (codes ".i 2" ∷ codes ".o 2" ∷ codes ".type f" ∷ codes "1- 1-" ∷ codes "-1 -1" ∷ codes ".e" ∷ [])))) ≡ record {
  inputs = 2;
  outputs = 2;
  input_names = codes "x0" ∷ codes "x1" ∷ [];
  output_names = codes "y0" ∷ codes "y1" ∷ [];
  products = record { literals = Some true ∷ None ∷ []; outputs = true ∷ false ∷ [] } ∷ record
      { literals = None ∷ Some true ∷ []; outputs = false ∷ true ∷ [] } ∷ [];
}
unfolding lines_of words positions directive meaning line_said said description inputs_of outputs_of numbered_names term_of cover_of digits
dashes_cover = refl
