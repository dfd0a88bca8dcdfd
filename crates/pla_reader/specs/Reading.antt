-- What an input is read as.
--     faults lines      the faulty lines with their numbers, counted from 1, each judged by the lines before it; then the fault of the end
--     Reads bytes cover, FirstFault bytes line fault      the input is read as the cover; the input's first fault
use Rattle.std.specs.Prelude.{◌≡◌, ℕ, ◌+◌, if◌then◌else◌, ◌&&◌, List, [], ◌∷◌, ◌++◌, length, take, Option, min, filter_map}
use Rattle.std.specs.Option.{option_map}
use Rattle.std.specs.List.{slice_index_or, range_with_len}
use Rattle.pla_reader.specs.declared.errors.LineFault.{LineFault}
use Rattle.pla_reader.specs.declared.errors.LineFault.TheVariants.{MissingHead}
use Rattle.pla_reader.specs.Lines.{Line, said, description}
use Rattle.pla_reader.specs.Lines.Line.{Empty}
use Rattle.pla_reader.specs.Covers.{NamedCover, input_count, output_count, cover_of}
use Rattle.pla_reader.specs.Faults.{comes, fault_of}

-- line k of a description, counted from 0, with its number and its fault, if it has one
unfoldable pub judged : List Line → ℕ → Option (ℕ × LineFault)
judged lines k = option_map (λ fault. (k + 1, fault)) (fault_of (take k lines) (slice_index_or lines k Empty))

-- the number of the line that ends the description, or of the last line
abbrev pub end_number : List Line → ℕ
end_number lines = min (length (description lines) + 1) (length lines)

-- the fault of the end of a description, if the number of inputs or of outputs is missing
unfoldable pub end_faults : List Line → List (ℕ × LineFault)
end_faults lines =
    if comes input_count (description lines) && comes output_count (description lines) then []
    else (end_number lines, MissingHead) ∷ []

-- all faults of an input's lines, each judged by the lines before it, and then the fault of the end
unfoldable pub faults : List Line → List (ℕ × LineFault)
faults lines = filter_map (judged (description lines)) (range_with_len 0 (length (description lines)))
    ++ end_faults lines

-- the lines have no fault, and give the cover
pub record Gives (lines : List Line) (cover : NamedCover) : Type 0 where
  pub faultless : faults lines ≡ []
  pub given : cover_of (description lines) ≡ cover

-- the first fault of the lines
pub record HasFirst (lines : List Line) (line : ℕ) (fault : LineFault) : Type 0 where
  pub others : List (ℕ × LineFault)
  pub first : faults lines ≡ (line, fault) ∷ others

-- the input is read as a cover
abbrev pub Reads : List ℕ → NamedCover → Type 0
Reads bytes cover = Gives (said bytes) cover

-- the input's first fault
abbrev pub FirstFault : List ℕ → ℕ → LineFault → Type 0
FirstFault bytes line fault = HasFirst (said bytes) line fault
