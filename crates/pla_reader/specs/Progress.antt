-- What the program has read of a description's lines.
--     State, state_of progress      what the program holds
--     Agrees before state      the state is what the lines before give
--     Taken before line state result, Takes old line new result      the program's answer for a line
--     IsCoverOf state cover, IsEndError state number error      the program's answer at the end of the description
use Rattle.std.specs.Prelude.{◌≡◌, ℕ, ◌≤◌, Bool, true, false, List, [], ◌∷◌, ◌++◌, length, map, Option, Some, None, Result, Ok, Err, unwrap_or, filter_map, ◌&&◌, is_some, codes, IfSome}
use Rattle.std.specs.Option.{option_to_list, option_map}
use Rattle.std.specs.List.{All}
use Rattle.std.specs.String.{string_bytes}
use Rattle.definitions.specs.declared.Term.{Term}
use Rattle.pla_reader.specs.declared.errors.LineFault.TheVariants.{MissingHead}
use Rattle.pla_reader.specs.declared.errors.PlaError.{PlaError}
use Rattle.pla_reader.specs.declared.errors.PlaError.TheVariants as pla_errors
use Rattle.pla_reader.specs.declared.progress.Progress.{Progress}
use Rattle.pla_reader.specs.declared.progress.LogicalType.{LogicalType}
use Rattle.pla_reader.specs.declared.progress.LogicalType.TheVariants as types
use Rattle.pla_reader.specs.declared.progress.LineError.{LineError}
use Rattle.pla_reader.specs.declared.progress.LineError.TheVariants as line_errors
use Rattle.definitions.specs.Products.{product_of}
use Rattle.pla_reader.specs.Lines.{Line}
use Rattle.pla_reader.specs.Covers.{NamedCover, input_count, output_count, input_naming, output_naming, type_words, row_bytes, term_of, numbered_names}
use Rattle.pla_reader.specs.Faults.{fault_of}
use Rattle.pla_reader.specs.Masks.{Fits}

-- what the program holds of the lines so far
pub record State : Type 0 where
  pub inputs : Option ℕ
  pub outputs : Option ℕ
  pub input_names : Option (List (List ℕ))
  pub output_names : Option (List (List ℕ))
  pub logical_type : Option LogicalType
  pub terms : List Term

abbrev pub state_of : Progress → State
state_of p = record {
  inputs = p.inputs;
  outputs = p.outputs;
  input_names = option_map (λ names. map string_bytes names.items) p.input_names;
  output_names = option_map (λ names. map string_bytes names.items) p.output_names;
  logical_type = p.logical_type;
  terms = p.terms.items;
}

-- the state before the first line
abbrev pub start : State
start = record {
  inputs = None;
  outputs = None;
  input_names = None;
  output_names = None;
  logical_type = None;
  terms = [];
}

-- whether the type is f
abbrev pub is_f : Option LogicalType → Bool
is_f (Some types.F) = true
is_f _ = false

-- the words of a logical type
abbrev pub words_of : LogicalType → List (List ℕ)
words_of types.F = codes "f" ∷ []
words_of types.Fd = codes "fd" ∷ []

-- the numbers of inputs and outputs, and the terms, fit one another
pub record IsSoundState (s : State) : Type 0 where
  pub inputs : IfSome s.inputs (λ n. (1 ≤ n) × (n ≤ 16))
  pub outputs : IfSome s.outputs (λ m. (1 ≤ m) × (m ≤ 16))
  pub input_names : IfSome s.input_names (λ names. s.inputs ≡ Some (length names))
  pub output_names : IfSome s.output_names (λ names. s.outputs ≡ Some (length names))
  pub terms : All (Fits (unwrap_or s.inputs 0) (unwrap_or s.outputs 0)) s.terms
  pub no_terms : (is_some s.inputs && is_some s.outputs) ≡ false → s.terms ≡ []

-- what the program holds after some lines without a fault
pub record Agrees (before : List Line) (s : State) : Type 0 where
  pub inputs : filter_map input_count before ≡ option_to_list s.inputs
  pub outputs : filter_map output_count before ≡ option_to_list s.outputs
  pub input_names : filter_map input_naming before ≡ option_to_list s.input_names
  pub output_names : filter_map output_naming before ≡ option_to_list s.output_names
  pub types : filter_map type_words before ≡ option_to_list (option_map words_of s.logical_type)
  pub rows : map (term_of (unwrap_or s.inputs 0)) (filter_map row_bytes before)
      ≡ map (product_of (unwrap_or s.inputs 0) (unwrap_or s.outputs 0)) s.terms
  pub sound : IsSoundState s

-- the answer for a line after others: the line has no fault and the state has what it gives, or the answer is the line's fault
abbrev pub Taken : {U : Type 0} → List Line → Line → State → Result U LineError → Type 0
Taken before line after (Ok u) = (fault_of before line ≡ None) × Agrees (before ++ line ∷ []) after
Taken before line after (Err line_errors.Memory) = Unit {0}
Taken before line after (Err (line_errors.Fault fault)) = fault_of before line ≡ Some fault

-- the answer for a line is right, whatever lines came before
abbrev pub Takes : {U : Type 0} → Progress → Line → Progress → Result U LineError → Type 0
Takes old line new result = (before : List Line) → Agrees before (state_of old) →
    Taken before line (state_of new) result

-- the cover is what the program holds, with numbered names if none came
pub record IsCoverOf (s : State) (cover : NamedCover) : Type 0 where
  pub inputs : s.inputs ≡ Some cover.inputs
  pub outputs : s.outputs ≡ Some cover.outputs
  pub input_names : cover.input_names ≡ unwrap_or s.input_names (numbered_names (codes "x") cover.inputs)
  pub output_names : cover.output_names ≡ unwrap_or s.output_names (numbered_names (codes "y") cover.outputs)
  pub products : cover.products ≡ map (product_of cover.inputs cover.outputs) s.terms

-- why there is no cover at the end of the description, at a line
abbrev pub IsEndError : State → ℕ → PlaError → Type 0
IsEndError s number (pla_errors.Line line fault) = (line ≡ number) × (fault ≡ MissingHead)
    × ((is_some s.inputs && is_some s.outputs) ≡ false)
IsEndError s number pla_errors.OutOfMemory = Unit {0}
IsEndError s number pla_errors.TooLong = ⊥
IsEndError s number pla_errors.Device = ⊥
