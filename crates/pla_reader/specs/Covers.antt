-- What the lines of a description give, and its cover.
--     NamedCover      a cover: numbers, names and product terms
--     input_count line, .. , row_bytes line      what a line gives
--     inputs_of lines, outputs_of lines      the numbers that the lines give
--     cover_of lines      the cover of the lines
--     IsCover cover      a cover is well formed
--     functions_of cover      the functions of a cover (espresso(5), logical type f)
use Rattle.std.specs.Prelude.{◌≡◌, ℕ, ◌≤◌, Bool, true, false, if◌then◌else◌, ◌==◌, List, [], ◌∷◌, ◌++◌, map, take, drop, Option, Some, None, decimal, filter_map, codes, length}
use Rattle.std.specs.List.{All, range_with_len}
use Rattle.definitions.specs.Functions.{Function}
use Rattle.definitions.specs.Products.{Product, product_functions}
use Rattle.definitions.specs.Texts.{number_of}
use Rattle.pla_reader.specs.Lines.{Line}
use Rattle.pla_reader.specs.Lines.Line.{Inputs, Outputs, InputNames, OutputNames, LogicalType, Row}

-- a cover: how many inputs and outputs it has, their names, and its product terms
pub record NamedCover : Type 0 where
  pub inputs : ℕ
  pub outputs : ℕ
  pub input_names : List (List ℕ)
  pub output_names : List (List ℕ)
  pub products : List Product

-- the functions of a cover (espresso(5), logical type f)
abbrev pub functions_of : NamedCover → List Function
functions_of cover = product_functions cover.outputs cover.products

-- the number in the words of a line
abbrev pub first_number : List (List ℕ) → Option ℕ
first_number [] = None
first_number (word ∷ more) = Some (number_of word)

-- what a line gives: the number of inputs or outputs, their names, the logical type, the bytes of a term
abbrev pub input_count : Line → Option ℕ
input_count (Inputs given) = first_number given
input_count _ = None

abbrev pub output_count : Line → Option ℕ
output_count (Outputs given) = first_number given
output_count _ = None

abbrev pub input_naming : Line → Option (List (List ℕ))
input_naming (InputNames given) = Some given
input_naming _ = None

abbrev pub output_naming : Line → Option (List (List ℕ))
output_naming (OutputNames given) = Some given
output_naming _ = None

abbrev pub type_words : Line → Option (List (List ℕ))
type_words (LogicalType given) = Some given
type_words _ = None

abbrev pub row_bytes : Line → Option (List ℕ)
row_bytes (Row bytes) = Some bytes
row_bytes _ = None

-- the first value of a list, or the given one if the list is empty
abbrev pub first_or : {A : Type 0} → A → List A → A
first_or other [] = other
first_or other (x ∷ xs) = x

-- the number of inputs, and of outputs, that the lines give
unfoldable pub inputs_of : List Line → ℕ
inputs_of lines = first_or 0 (filter_map input_count lines)

unfoldable pub outputs_of : List Line → ℕ
outputs_of lines = first_or 0 (filter_map output_count lines)

-- n texts: the given text followed by 0, 1, 2 and so on
unfoldable pub numbered_names : List ℕ → ℕ → List (List ℕ)
numbered_names front n = map (λ i. front ++ decimal i) (range_with_len 0 n)

-- the literal of an input character: 0 has the variable complemented in the product, 1 uncomplemented, else the variable doesn't appear
abbrev pub literal_of : ℕ → Option Bool
literal_of c = if c == 48 then Some false else if c == 49 then Some true else None

-- an output character 1 has the product belong to the output's ON-set; any other has no meaning for the output's value
abbrev pub in_on_set : ℕ → Bool
in_on_set c = c == 49

-- the product term of its bytes, with n inputs
unfoldable pub term_of : ℕ → List ℕ → Product
term_of n bytes = record { literals = map literal_of (take n bytes); outputs = map in_on_set (drop n bytes) }

-- the cover of a description's lines: inputs without names are x0, x1, .., outputs without names y0, y1, ..
unfoldable pub cover_of : List Line → NamedCover
cover_of lines = record {
  inputs = inputs_of lines;
  outputs = outputs_of lines;
  input_names = first_or (numbered_names (codes "x") (inputs_of lines)) (filter_map input_naming lines);
  output_names = first_or (numbered_names (codes "y") (outputs_of lines)) (filter_map output_naming lines);
  products = map (term_of (inputs_of lines)) (filter_map row_bytes lines);
}

-- a product of n inputs and m outputs
pub record IsProductOf (n m : ℕ) (product : Product) : Type 0 where
  pub literals : length product.literals ≡ n
  pub outputs : length product.outputs ≡ m

-- a cover has 1 to 16 inputs and outputs, a name for each, and products of these
pub record IsCover (cover : NamedCover) : Type 0 where
  pub some_inputs : 1 ≤ cover.inputs
  pub few_inputs : cover.inputs ≤ 16
  pub some_outputs : 1 ≤ cover.outputs
  pub few_outputs : cover.outputs ≤ 16
  pub input_names : length cover.input_names ≡ cover.inputs
  pub output_names : length cover.output_names ≡ cover.outputs
  pub products : All (IsProductOf cover.inputs cover.outputs) cover.products
