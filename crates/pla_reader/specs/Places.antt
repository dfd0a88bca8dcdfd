-- Where names stand in the bytes of an input.
--     bytes_at text place      the bytes at a place of a text
--     LiesIn start end place      a place begins at `start` or behind, and ends at `end` or before
--     naming_by names line      the names that a line gives, of inputs or of outputs
--     Gives names line given      if a line gives names, these are the names
--     StandInLine names bytes places      the places stand in one line of the text and are those of all names that the line gives
--     AreNamesAt names bytes places      the parts of the text that spell the names that the description gives
use Rattle.std.specs.Prelude.{◌≡◌, ◌≤◌, ◌+◌, ◌⊎◌, ℕ, List, [], ◌∷◌, ◌++◌, length, map, take, drop, filter_map, Option, Some}
use Rattle.std.specs.List.{All}
use Rattle.pla_reader.specs.declared.places.TextPlace.{TextPlace}
use Rattle.pla_reader.specs.declared.places.Names.{Names}
use Rattle.pla_reader.specs.declared.places.Names.TheVariants as names
use Rattle.pla_reader.specs.Lines.{Line, description, line_said, said}
use Rattle.pla_reader.specs.Text.{lines_of}
use Rattle.pla_reader.specs.Covers.{first_or, input_naming, output_naming}

-- the bytes at a place of a text
abbrev pub bytes_at : List ℕ → TextPlace → List ℕ
bytes_at text place = take place.length (drop place.start text)

-- a place begins at `start` or behind, and ends at `end` or before
abbrev pub LiesIn : ℕ → ℕ → TextPlace → Type 0
LiesIn start end place = (start ≤ place.start) × (place.start + place.length ≤ end)

-- the names that a line gives, of inputs or of outputs
abbrev pub naming_by : Names → Line → Option (List (List ℕ))
naming_by names.Inputs line = input_naming line
naming_by names.Outputs line = output_naming line

-- if a line gives names, these are the names
pub record Gives (kind : Names) (line : Line) (given : List (List ℕ)) : Type 0 where
  pub are : (named : List (List ℕ)) → naming_by kind line ≡ Some named → given ≡ named

-- the text has a line in which just these places are names; before the line stand whole lines
pub record StandInLine (kind : Names) (bytes : List ℕ) (places : List TextPlace) : Type 0 where
  pub front : List ℕ
  pub rest : List ℕ
  pub bytes_are : bytes ≡ front ++ rest
  pub before : List (List ℕ)
  pub lines_are : lines_of bytes ≡ before ++ lines_of rest
  pub line : List ℕ
  pub others : List (List ℕ)
  pub first_is : lines_of rest ≡ line ∷ others
  pub given : naming_by kind (line_said line) ≡ Some (map (bytes_at bytes) places)
  pub within : All (LiesIn (length front) (length front + length line)) places

-- the parts of the text that spell the names that the description gives; none if it gives none
pub record AreNamesAt (kind : Names) (bytes : List ℕ) (places : List TextPlace) : Type 0 where
  pub inside : All (LiesIn 0 (length bytes)) places
  pub spell : map (bytes_at bytes) places ≡ first_or [] (filter_map (naming_by kind) (description (said bytes)))
  pub stand : (places ≡ []) ⊎ StandInLine kind bytes places
