-- What is wrong with a line, judged by the lines before it.
--     fault_of before line      the fault of a line
use Rattle.std.specs.Prelude.{ℕ, Bool, false, not, if◌then◌else◌, ◌+◌, ◌&&◌, ◌||◌, ◌==◌, List, [], ◌∷◌, ◌++◌, length, map, take, drop, Option, Some, None, codes, filter_map, nat_lt, nat_le}
use Rattle.std.specs.Option.{option_map_or}
use Rattle.std.specs.List.{list_all}
use Rattle.definitions.specs.Texts.{same, number_of, is_number, first_fault}
use Rattle.pla_reader.specs.declared.errors.LineFault.{LineFault}
use Rattle.pla_reader.specs.declared.errors.LineFault.TheVariants.{MissingHead, RepeatedHead, InputCount, OutputCount, BadNumber, NameCount, BadName, UnknownDirective, UnsupportedType, DontCare, BadInputChar, BadOutputChar, ShortTerm, LongTerm}
use Rattle.pla_reader.specs.Text.{is_filled, only_word, is_name}
use Rattle.pla_reader.specs.Lines.{Line}
use Rattle.pla_reader.specs.Lines.Line.{Empty, Inputs, Outputs, InputNames, OutputNames, Products, LogicalType, End, UnknownWord, Row}
use Rattle.pla_reader.specs.Covers.{input_count, output_count, input_naming, output_naming, type_words, row_bytes, inputs_of, outputs_of}

-- whether an earlier line gives a number, names or a type: that which the first argument finds in a line
abbrev pub comes : {A : Type 0} → (Line → Option A) → List Line → Bool
comes thing before = is_filled (filter_map thing before)

-- the first fault of a list of faults that may be there
abbrev pub first_some : List (Option LineFault) → Option LineFault
first_some [] = None
first_some (None ∷ others) = first_some others
first_some (Some fault ∷ others) = Some fault

-- whether the words are one number
abbrev pub is_one_number : List (List ℕ) → Bool
is_one_number given = option_map_or is_number (only_word given) false

-- whether a word is a number of 1 to 16
abbrev pub is_small : List ℕ → Bool
is_small word = nat_le 1 (number_of word) && nat_le (number_of word) 16

-- whether the words are one number of 1 to 16
abbrev pub is_count : List (List ℕ) → Bool
is_count given = option_map_or is_small (only_word given) false

-- whether a word is the logical type f: 1 is in the ON-set, and 0 and - have no meaning
abbrev pub is_plain : List ℕ → Bool
is_plain word = same word (codes "f")

-- whether a word is one of the types f and fd: with fd, 1 is in the ON-set, - in the DC-set, and 0 has no meaning
abbrev pub is_known : List ℕ → Bool
is_known word = is_plain word || same word (codes "fd")

-- whether the words are one word, the type f; whether they are one word, f or fd
abbrev pub is_plain_type : List (List ℕ) → Bool
is_plain_type given = option_map_or is_plain (only_word given) false

abbrev pub is_type : List (List ℕ) → Bool
is_type given = option_map_or is_known (only_word given) false

-- whether an earlier line is .type f, under which an output character - or 2 has no meaning
abbrev pub takes_dont_cares : List Line → Bool
takes_dont_cares before = list_all is_plain_type (filter_map type_words before) && comes type_words before

-- the fault of an input character: 0, 1 and - are known, and 2 is a synonym for -
abbrev pub input_fault : ℕ → Option LineFault
input_fault c = if c == 48 || (c == 49 || (c == 45 || c == 50)) then None else Some BadInputChar

-- the fault of an output character, by whether - and its synonym 2 are taken: ~ has no meaning for the value of the function, whatever the type
abbrev pub output_fault : Bool → ℕ → Option LineFault
output_fault taken c =
    if c == 48 || (c == 49 || c == 126) then None
    else if c == 45 || c == 50 then (if taken then None else Some DontCare)
    else Some BadOutputChar

-- the fault of a number of positions
abbrev pub length_fault : ℕ → ℕ → Option LineFault
length_fault count wanted =
    if nat_lt count wanted then Some ShortTerm
    else if nat_lt wanted count then Some LongTerm
    else None

-- the first fault of a term from the left: the term has n input characters, m output characters, and nothing more
unfoldable pub term_fault : Bool → ℕ → ℕ → List ℕ → Option LineFault
term_fault taken n m bytes =
    first_some (map input_fault (take n bytes) ++ map (output_fault taken) (take m (drop n bytes))
    ++ length_fault (length bytes) (n + m) ∷ [])

-- the fault of a number of inputs or outputs; the first argument says whether one came before
abbrev pub head_fault : Bool → List (List ℕ) → LineFault → Option LineFault
head_fault repeated given outside = first_fault (
    (repeated, RepeatedHead)
    ∷ (not (is_one_number given), BadNumber)
    ∷ (not (is_count given), outside) ∷ [])

-- the fault of names; the first arguments say whether their number, and whether names, came before: each variable has one name
abbrev pub naming_fault : Bool → Bool → ℕ → List (List ℕ) → Option LineFault
naming_fault counted repeated count given = first_fault (
    (not counted, MissingHead)
    ∷ (repeated, RepeatedHead)
    ∷ (not (length given == count), NameCount)
    ∷ (not (list_all is_name given), BadName) ∷ [])

-- the fault of a logical type; the first arguments say whether a type, and whether a term, came before: the type precedes all terms
abbrev pub type_fault : Bool → Bool → List (List ℕ) → Option LineFault
type_fault repeated late given = first_fault (
    (repeated, RepeatedHead)
    ∷ (not (is_type given) || late, UnsupportedType) ∷ [])

-- the fault of a line after the lines before it
unfoldable pub fault_of : List Line → Line → Option LineFault
fault_of before Empty = None
fault_of before (Inputs given) = head_fault (comes input_count before) given InputCount
fault_of before (Outputs given) = head_fault (comes output_count before) given OutputCount
fault_of before (InputNames given) = naming_fault (comes input_count before) (comes input_naming before)
    (inputs_of before) given
fault_of before (OutputNames given) = naming_fault (comes output_count before) (comes output_naming before)
    (outputs_of before) given
fault_of before (Products given) = first_fault ((not (is_one_number given), BadNumber) ∷ [])
fault_of before (LogicalType given) = type_fault (comes type_words before) (comes row_bytes before) given
fault_of before End = None
fault_of before UnknownWord = Some UnknownDirective
fault_of before (Row bytes) =
    if comes input_count before && comes output_count before then term_fault (takes_dont_cares before) (inputs_of before) (outputs_of before) bytes
    else Some MissingHead
