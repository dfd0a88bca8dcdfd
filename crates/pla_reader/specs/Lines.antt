-- The meaning of a line of a PLA description.
--     Line, line_said line      a line's meaning
--     said bytes      the lines of an input
--     description lines      the lines before the one that ends the description
use Rattle.std.specs.Prelude.{ℕ, Bool, true, false, not, if◌then◌else◌, ◌==◌, List, [], ◌∷◌, map, codes, slice_index, take_while}
use Rattle.definitions.specs.Texts.{same}
use Rattle.pla_reader.specs.Text.{lines_of, content, words, positions}

-- a directive with the words after it, or a term with its positions
pub data Line : Type 0 where
  Empty : Line
  Inputs Outputs InputNames OutputNames Products LogicalType : (given : List (List ℕ)) → Line
  End UnknownWord : Line
  Row : (bytes : List ℕ) → Line

-- the meaning of a directive, by espresso(5)'s words for it
unfoldable pub directive : List ℕ → List (List ℕ) → Line
directive word given =
    -- `.i d` specifies the number of input variables, `.o d` the number of output functions
    if same word (codes ".i") then Inputs given
    else if same word (codes ".o") then Outputs given
    -- `.ilb s1 s2 .. sn` gives the names of the input variables, `.ob s1 s2 .. sn` those of the output functions
    else if same word (codes ".ilb") then InputNames given
    else if same word (codes ".ob") then OutputNames given
    -- `.p d` specifies the number of product terms; the number is not used
    else if same word (codes ".p") then Products given
    -- `.type s` sets the logical interpretation of the output characters
    else if same word (codes ".type") then LogicalType given
    -- `.e` or `.end` optionally marks the end of the description
    else if same word (codes ".e") then End
    else if same word (codes ".end") then End
    else UnknownWord

-- the meaning of a line of these words: a directive if the first one begins with a point
unfoldable pub meaning : List (List ℕ) → Line → Line
meaning [] row = Empty
meaning (word ∷ given) row = if slice_index word 0 == 46 then directive word given else row

-- the meaning of a line
unfoldable pub line_said : List ℕ → Line
line_said line = meaning (words (content line)) (Row (positions (content line)))

-- whether a line ends the description
abbrev pub is_end : Line → Bool
is_end End = true
is_end _ = false

-- the meanings of the lines of an input
unfoldable pub said : List ℕ → List Line
said bytes = map line_said (lines_of bytes)

-- the lines before the one that ends the description
unfoldable pub description : List Line → List Line
description lines = take_while (λ line. not (is_end line)) lines
