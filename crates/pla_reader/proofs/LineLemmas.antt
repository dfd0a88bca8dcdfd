-- What the program holds after a further line.
use Rattle.std.proofs.Common.{◌≡◌, ℕ, ◌≤◌, refl, sym, ◌∙◌, ap, Bool, true, false, ◌&&◌, List, [], ◌∷◌, ◌++◌, length, map, Option, Some, None, unwrap_or, is_some, filter_map, IfSome, ◌⊎◌, inl, inr, rules, Result, Ok, Err, IsErrAnd}
use Rattle.std.specs.Option.{option_to_list, option_map}
use Rattle.std.specs.List.{All}
use Rattle.std.proofs.lemmas.List.Elements.{filter_map-append, All-nil, All-append}
use mathlib.Core.List.{append-nil, map-append}
use Rattle.pla_reader.specs.declared.errors.LineFault.{LineFault}
use Rattle.pla_reader.specs.declared.errors.LineFault.TheVariants.{MissingHead, InputCount, OutputCount, BadNumber, UnknownDirective}
use Rattle.definitions.specs.declared.Term.{Term}
use Rattle.pla_reader.specs.declared.progress.LineError.{LineError}
use Rattle.pla_reader.specs.declared.progress.LineError.TheVariants as errors
use Rattle.pla_reader.specs.declared.progress.LogicalType.{LogicalType}
use Rattle.pla_reader.specs.declared.progress.LogicalType.TheVariants as types
use Rattle.pla_reader.specs.Text.{is_filled}
use Rattle.pla_reader.specs.Lines.{Line}
use Rattle.pla_reader.specs.Lines.Line.{Empty, Inputs, Outputs, InputNames, OutputNames, Products, LogicalType as TypeLine, End, UnknownWord, Row}
use Rattle.definitions.specs.Products.{product_of}
use Rattle.pla_reader.specs.Covers.{input_count, output_count, input_naming, output_naming, type_words, row_bytes, term_of, first_number, inputs_of, outputs_of}
use Rattle.pla_reader.specs.Faults.{comes, head_fault, fault_of, term_fault, naming_fault, type_fault, takes_dont_cares, is_one_number}
use Rattle.pla_reader.specs.Masks.{Fits}
use Rattle.pla_reader.specs.Progress.{State, Agrees, IsSoundState, Taken, is_f, words_of}
use Rattle.std.proofs.Math.Bool.{and-false}

-- a further line that gives nothing, or something
pub none_behind : {A : Type 0} (h : Line → Option A) (before : List Line) (line : Line) → h line ≡ None →
    filter_map h (before ++ line ∷ []) ≡ filter_map h before
none_behind h before line e = filter_map-append h before (line ∷ []) ∙ rw e (append-nil (filter_map h before))

pub one_behind : {A : Type 0} (h : Line → Option A) (before : List Line) (line : Line) (x : A) → h line ≡ Some x →
    filter_map h (before ++ line ∷ []) ≡ filter_map h before ++ x ∷ []
one_behind h before line x e = filter_map-append h before (line ∷ []) ∙ rw e refl

-- what was not known is what the further line gives
pub first_given : {A : Type 0} (h : Line → Option A) (before : List Line) (line : Line) (known : Option A) (x : A) →
    filter_map h before ≡ option_to_list known → known ≡ None → h line ≡ Some x →
    filter_map h (before ++ line ∷ []) ≡ x ∷ []
first_given h before line known x e none gives = one_behind h before line x gives ∙ ap (λ xs. xs ++ x ∷ []) e ∙ ap (λ k. option_to_list k ++ x ∷ []) none

-- the tests of what came, by what the program holds
pub comes_known : {A : Type 0} (h : Line → Option A) (before : List Line) (known : Option A) → filter_map h before ≡ option_to_list known →
    comes h before ≡ is_some known
comes_known h before None e = rw e refl
comes_known h before (Some x) e = rw e refl

pub inputs_known : (before : List Line) (known : Option ℕ) → filter_map input_count before ≡ option_to_list known → inputs_of before ≡ unwrap_or known 0
unfolding inputs_of
inputs_known before None e = rw e refl
inputs_known before (Some x) e = rw e refl

pub outputs_known : (before : List Line) (known : Option ℕ) → filter_map output_count before ≡ option_to_list known → outputs_of before ≡ unwrap_or known 0
unfolding outputs_of
outputs_known before None e = rw e refl
outputs_known before (Some x) e = rw e refl

types_come : (before : List Line) (kind : Option LogicalType) → filter_map type_words before ≡ option_to_list (option_map words_of kind) →
    comes type_words before ≡ is_some kind
types_come before None e = rw e refl
types_come before (Some kind) e = rw e refl

takes_known : (before : List Line) (kind : Option LogicalType) → filter_map type_words before ≡ option_to_list (option_map words_of kind) →
    takes_dont_cares before ≡ is_f kind
takes_known before None e = rw e refl
takes_known before (Some types.F) e = rw e refl
takes_known before (Some types.Fd) e = rw e refl

-- lists whose images are equal are filled alike
filled_alike : {A B C : Type 0} (f : A → C) (g : B → C) (xs : List A) (ys : List B) → map f xs ≡ map g ys → is_filled xs ≡ is_filled ys
filled_alike f g [] [] e = refl
filled_alike f g [] (y ∷ ys) e = absurd cc
filled_alike f g (x ∷ xs) [] e = absurd cc
filled_alike f g (x ∷ xs) (y ∷ ys) e = refl

none_filled : {A : Type 0} (xs : List A) → is_filled xs ≡ false → xs ≡ []
none_filled [] e = refl
none_filled (x ∷ xs) e = absurd cc

rows_none : {A B C : Type 0} (f : A → C) (g : B → C) (xs : List A) (ys : List B) → map f xs ≡ map g ys → ys ≡ [] → xs ≡ []
rows_none f g xs ys e none = none_filled xs (filled_alike f g xs ys e ∙ rw none refl)

-- a count or a type that has no fault has none before it
pub unrepeated_count : (known : Option ℕ) (given : List (List ℕ)) (outside : LineFault) → head_fault (is_some known) given outside ≡ None → known ≡ None
unrepeated_count None given outside e = refl
unrepeated_count (Some x) given outside e = absurd cc

pub unrepeated_names : (known : Option (List (List ℕ))) (counted : Bool) (n : ℕ) (given : List (List ℕ)) →
    naming_fault counted (is_some known) n given ≡ None → known ≡ None
unrepeated_names None counted n given e = refl
unrepeated_names (Some x) true n given e = absurd cc
unrepeated_names (Some x) false n given e = absurd cc

pub unrepeated_type : (known : Option LogicalType) (late : Bool) (given : List (List ℕ)) → type_fault (is_some known) late given ≡ None → known ≡ None
unrepeated_type None late given e = refl
unrepeated_type (Some x) late given e = absurd cc

pub names_wait : (names : Option (List (List ℕ))) (old new : Option ℕ) → old ≡ None → IfSome names (λ ns. old ≡ Some (length ns)) →
    IfSome names (λ ns. new ≡ Some (length ns))
names_wait None old new e counted = tt
names_wait (Some ns) old new e counted = absurd cc

-- terms wait for both counts
no_terms_yet : (s : State) → IsSoundState s → (s.inputs ≡ None) ⊎ (s.outputs ≡ None) → s.terms ≡ []
no_terms_yet s sound (inl none) = sound.no_terms (rw none refl)
no_terms_yet s sound (inr none) = sound.no_terms (rw none (and-false (is_some s.inputs)))

pub after_nothing : (before : List Line) (s : State) (line : Line) → input_count line ≡ None → output_count line ≡ None →
    input_naming line ≡ None → output_naming line ≡ None →
    type_words line ≡ None → row_bytes line ≡ None → Agrees before s → Agrees (before ++ line ∷ []) s
after_nothing before s line i o xs ys t r agrees = search (none_behind, unwrap_or)

-- a list without terms agrees with no rows, whatever the counts
rows_of_none : (before : List Line) (s : State) (line : Line) (n m : ℕ) → Agrees before s → row_bytes line ≡ None → s.terms ≡ [] →
    map (term_of n) (filter_map row_bytes (before ++ line ∷ [])) ≡ map (product_of n m) s.terms
rows_of_none before s line n m agrees e none =
    let rows = rows_none (term_of (unwrap_or s.inputs 0)) (product_of (unwrap_or s.inputs 0) (unwrap_or s.outputs 0))
    (filter_map row_bytes before) s.terms agrees.rows none in
    rw (none_behind row_bytes before line e) (rw rows (rw none refl))

all_of_none : (n m : ℕ) (terms : List Term) → terms ≡ [] → All (Fits n m) terms
all_of_none n m terms none = rw none (All-nil (Fits n m))

pub after_inputs : (before : List Line) (s : State) (given : List (List ℕ)) (d : ℕ) → Agrees before s → s.inputs ≡ None →
    first_number given ≡ Some d → 1 ≤ d → d ≤ 16 →
    Agrees (before ++ Inputs given ∷ []) (record s { inputs = Some d })
after_inputs before s given d agrees none number some few = let terms = no_terms_yet s agrees.sound (inl none) in record {
  inputs = first_given input_count before (Inputs given) s.inputs d agrees.inputs none number;
  outputs = none_behind output_count before (Inputs given) refl ∙ agrees.outputs;
  input_names = none_behind input_naming before (Inputs given) refl ∙ agrees.input_names;
  output_names = none_behind output_naming before (Inputs given) refl ∙ agrees.output_names;
  types = none_behind type_words before (Inputs given) refl ∙ agrees.types;
  rows = rows_of_none before s (Inputs given) d (unwrap_or s.outputs 0) agrees refl terms;
  sound = record {
    inputs = (some, few);
    outputs = agrees.sound.outputs;
    input_names = names_wait s.input_names s.inputs (Some d) none agrees.sound.input_names;
    output_names = agrees.sound.output_names;
    terms = all_of_none d (unwrap_or s.outputs 0) s.terms terms;
    no_terms = λ e. terms;
  };
}

pub after_outputs : (before : List Line) (s : State) (given : List (List ℕ)) (d : ℕ) → Agrees before s → s.outputs ≡ None →
    first_number given ≡ Some d → 1 ≤ d → d ≤ 16 →
    Agrees (before ++ Outputs given ∷ []) (record s { outputs = Some d })
after_outputs before s given d agrees none number some few = let terms = no_terms_yet s agrees.sound (inr none) in record {
  inputs = none_behind input_count before (Outputs given) refl ∙ agrees.inputs;
  outputs = first_given output_count before (Outputs given) s.outputs d agrees.outputs none number;
  input_names = none_behind input_naming before (Outputs given) refl ∙ agrees.input_names;
  output_names = none_behind output_naming before (Outputs given) refl ∙ agrees.output_names;
  types = none_behind type_words before (Outputs given) refl ∙ agrees.types;
  rows = rows_of_none before s (Outputs given) (unwrap_or s.inputs 0) d agrees refl terms;
  sound = record {
    inputs = agrees.sound.inputs;
    outputs = (some, few);
    input_names = agrees.sound.input_names;
    output_names = names_wait s.output_names s.outputs (Some d) none agrees.sound.output_names;
    terms = all_of_none (unwrap_or s.inputs 0) d s.terms terms;
    no_terms = λ e. terms;
  };
}

pub after_input_names : (before : List Line) (s : State) (given : List (List ℕ)) → Agrees before s → s.input_names ≡ None → s.inputs ≡ Some (length given) →
    Agrees (before ++ InputNames given ∷ []) (record s { input_names = Some given })
after_input_names before s given agrees none counted = search (none_behind, first_given, unwrap_or)

pub after_output_names : (before : List Line) (s : State) (given : List (List ℕ)) → Agrees before s → s.output_names ≡ None → s.outputs ≡ Some (length given) →
    Agrees (before ++ OutputNames given ∷ []) (record s { output_names = Some given })
after_output_names before s given agrees none counted = search (none_behind, first_given, unwrap_or)

pub after_type : (before : List Line) (s : State) (given : List (List ℕ)) (kind : LogicalType) → Agrees before s → s.logical_type ≡ None →
    words_of kind ≡ given →
    Agrees (before ++ TypeLine given ∷ []) (record s { logical_type = Some kind })
after_type before s given kind agrees none said = record {
  inputs = none_behind input_count before (TypeLine given) refl ∙ agrees.inputs;
  outputs = none_behind output_count before (TypeLine given) refl ∙ agrees.outputs;
  input_names = none_behind input_naming before (TypeLine given) refl ∙ agrees.input_names;
  output_names = none_behind output_naming before (TypeLine given) refl ∙ agrees.output_names;
  types = first_given type_words before (TypeLine given) (option_map words_of s.logical_type) given agrees.types (rw none refl) refl
      ∙ ap (λ ws. ws ∷ []) (sym said);
  rows = ap (map (term_of (unwrap_or s.inputs 0))) (none_behind row_bytes before (TypeLine given) refl) ∙ agrees.rows;
  sound = record {
    inputs = agrees.sound.inputs;
    outputs = agrees.sound.outputs;
    input_names = agrees.sound.input_names;
    output_names = agrees.sound.output_names;
    terms = agrees.sound.terms;
    no_terms = agrees.sound.no_terms;
  };
}

all_more : (n m : ℕ) (terms : List Term) (term : Term) → All (Fits n m) terms → Fits n m term → All (Fits n m) (terms ++ term ∷ [])
all_more n m terms term all one = All-append (Fits n m) terms (term ∷ []) all (search rules)

pub after_row : (before : List Line) (s : State) (n m : ℕ) (bytes : List ℕ) (term : Term) → Agrees before s → s.inputs ≡ Some n →
    s.outputs ≡ Some m → product_of n m term ≡ term_of n bytes → Fits n m term →
    Agrees (before ++ Row bytes ∷ []) (record s { terms = s.terms ++ term ∷ [] })
after_row before s n m bytes term agrees first second same fits = record {
  inputs = none_behind input_count before (Row bytes) refl ∙ agrees.inputs;
  outputs = none_behind output_count before (Row bytes) refl ∙ agrees.outputs;
  input_names = none_behind input_naming before (Row bytes) refl ∙ agrees.input_names;
  output_names = none_behind output_naming before (Row bytes) refl ∙ agrees.output_names;
  types = none_behind type_words before (Row bytes) refl ∙ agrees.types;
  rows = rows;
  sound = record {
    inputs = agrees.sound.inputs;
    outputs = agrees.sound.outputs;
    input_names = agrees.sound.input_names;
    output_names = agrees.sound.output_names;
    terms = terms;
    no_terms = λ e. absurd cc;
  };
} where
  inputs_are : unwrap_or s.inputs 0 ≡ n
  inputs_are = rw first refl

  outputs_are : unwrap_or s.outputs 0 ≡ m
  outputs_are = rw second refl

  old_rows : map (term_of n) (filter_map row_bytes before) ≡ map (product_of n m) s.terms
  old_rows = rw outputs_are at (rw inputs_are at agrees.rows)

  rows : map (term_of (unwrap_or s.inputs 0)) (filter_map row_bytes (before ++ Row bytes ∷ [])) ≡ map
      (product_of (unwrap_or s.inputs 0) (unwrap_or s.outputs 0)) (s.terms ++ term ∷ [])
  rows = rw inputs_are
      (rw outputs_are
      (ap (map (term_of n)) (one_behind row_bytes before (Row bytes) bytes refl)
      ∙ map-append (term_of n) (filter_map row_bytes before) (bytes ∷ [])
      ∙ ap (λ front. front ++ term_of n bytes ∷ []) old_rows ∙ ap (λ t. map (product_of n m) s.terms ++ t ∷ []) (sym same)
      ∙ sym (map-append (product_of n m) s.terms (term ∷ []))))

  terms : All (Fits (unwrap_or s.inputs 0) (unwrap_or s.outputs 0)) (s.terms ++ term ∷ [])
  terms = rw inputs_are (rw outputs_are (all_more n m s.terms term (rw outputs_are at (rw inputs_are at agrees.sound.terms)) fits))

-- the faults of lines, by what the program holds
pub inputs_fault : (before : List Line) (s : State) (given : List (List ℕ)) → Agrees before s →
    fault_of before (Inputs given) ≡ head_fault (is_some s.inputs) given InputCount
unfolding fault_of
inputs_fault before s given agrees = ap (λ b. head_fault b given InputCount) (comes_known input_count before s.inputs agrees.inputs)

pub outputs_fault : (before : List Line) (s : State) (given : List (List ℕ)) → Agrees before s →
    fault_of before (Outputs given) ≡ head_fault (is_some s.outputs) given OutputCount
unfolding fault_of
outputs_fault before s given agrees = ap (λ b. head_fault b given OutputCount) (comes_known output_count before s.outputs agrees.outputs)

-- whether a value is known is kept by a map
pub some_kept : {A B : Type 0} (f : A → B) (known : Option A) → is_some known ≡ is_some (option_map f known)
some_kept f None = refl
some_kept f (Some x) = refl

pub input_names_fault : (before : List Line) (s : State) (given : List (List ℕ)) (repeated : Bool) → repeated ≡ is_some s.input_names → Agrees before s →
    fault_of before (InputNames given) ≡ naming_fault (is_some s.inputs) repeated (unwrap_or s.inputs 0) given
unfolding fault_of
input_names_fault before s given repeated known agrees =
    rw (comes_known input_count before s.inputs agrees.inputs)
    (rw (comes_known input_naming before s.input_names agrees.input_names)
    (rw known (rw (inputs_known before s.inputs agrees.inputs) refl)))

pub output_names_fault : (before : List Line) (s : State) (given : List (List ℕ)) (repeated : Bool) → repeated ≡ is_some s.output_names → Agrees before s →
    fault_of before (OutputNames given) ≡ naming_fault (is_some s.outputs) repeated (unwrap_or s.outputs 0) given
unfolding fault_of
output_names_fault before s given repeated known agrees =
    rw (comes_known output_count before s.outputs agrees.outputs)
    (rw (comes_known output_naming before s.output_names agrees.output_names)
    (rw known (rw (outputs_known before s.outputs agrees.outputs) refl)))

pub type_line_fault : (before : List Line) (s : State) (given : List (List ℕ)) → Agrees before s →
    fault_of before (TypeLine given) ≡ type_fault (is_some s.logical_type) (is_filled s.terms) given
unfolding fault_of
type_line_fault before s given agrees =
    let late : comes row_bytes before ≡ is_filled s.terms =
    filled_alike (term_of (unwrap_or s.inputs 0)) (product_of (unwrap_or s.inputs 0) (unwrap_or s.outputs 0))
    (filter_map row_bytes before) s.terms agrees.rows in
    rw (types_come before s.logical_type agrees.types) (rw late refl)

pub row_fault : (before : List Line) (s : State) (n m : ℕ) (bytes : List ℕ) → Agrees before s → s.inputs ≡ Some n → s.outputs ≡ Some m →
    fault_of before (Row bytes) ≡ term_fault (is_f s.logical_type) n m bytes
unfolding fault_of
row_fault before s n m bytes agrees first second =
    let inputs = comes_known input_count before s.inputs agrees.inputs ∙ ap is_some first in
    let outputs = comes_known output_count before s.outputs agrees.outputs ∙ ap is_some second in
    let inputs_are = inputs_known before s.inputs agrees.inputs ∙ ap (λ k. unwrap_or k 0) first in
    let outputs_are = outputs_known before s.outputs agrees.outputs ∙ ap (λ k. unwrap_or k 0) second in
    rw inputs (rw outputs (rw inputs_are (rw outputs_are (rw (takes_known before s.logical_type agrees.types) refl))))

pub headless_row : (before : List Line) (s : State) (bytes : List ℕ) → Agrees before s → (is_some s.inputs && is_some s.outputs) ≡ false →
    fault_of before (Row bytes) ≡ Some MissingHead
unfolding fault_of
headless_row before s bytes agrees e =
    rw (comes_known input_count before s.inputs agrees.inputs) (rw (comes_known output_count before s.outputs agrees.outputs) (rw e refl))

-- the answers for a line, by what the program finds in it
pub refused : {U : Type 0} (before : List Line) (line : Line) (after : State) (r : Result U LineError) (fault : LineFault) →
    IsErrAnd r (λ e. e ≡ errors.Fault fault) → fault_of before line ≡ Some fault → Taken before line after r
refused before line after (Ok u) fault h e = elim h [ ]
refused before line after (Err x) fault h e = rw h e

pub takes_nothing : (before : List Line) (s : State) (line : Line) → (line ≡ Empty) ⊎ (line ≡ End) → Agrees before s →
    (fault_of before line ≡ None) × Agrees (before ++ line ∷ []) s
unfolding fault_of
takes_nothing before s line (inl e) agrees = rw e (refl, after_nothing before s Empty refl refl refl refl refl refl agrees)
takes_nothing before s line (inr e) agrees = rw e (refl, after_nothing before s End refl refl refl refl refl refl agrees)

pub takes_products : (before : List Line) (s : State) (given : List (List ℕ)) → is_one_number given ≡ true → Agrees before s →
    (fault_of before (Products given) ≡ None) × Agrees (before ++ Products given ∷ []) s
unfolding fault_of
takes_products before s given e agrees = (rw e refl, after_nothing before s (Products given) refl refl refl refl refl refl agrees)

pub refuses_products : (before : List Line) (given : List (List ℕ)) → is_one_number given ≡ false → fault_of before (Products given) ≡ Some BadNumber
unfolding fault_of
refuses_products before given e = rw e refl

pub refuses_unknown : (before : List Line) → fault_of before UnknownWord ≡ Some UnknownDirective
unfolding fault_of
refuses_unknown before = refl

pub takes_inputs : (before : List Line) (s : State) (given : List (List ℕ)) (d : ℕ) →
    (head_fault (is_some s.inputs) given InputCount ≡ None) × (first_number given ≡ Some d) × (1 ≤ d) × (d ≤ 16) → Agrees before s →
    (fault_of before (Inputs given) ≡ None) × Agrees (before ++ Inputs given ∷ []) (record s { inputs = Some d })
takes_inputs before s given d (none, number, some, few) agrees =
    (inputs_fault before s given agrees ∙ none, after_inputs before s given d agrees (unrepeated_count s.inputs given InputCount none) number some few)

pub takes_outputs : (before : List Line) (s : State) (given : List (List ℕ)) (d : ℕ) →
    (head_fault (is_some s.outputs) given OutputCount ≡ None) × (first_number given ≡ Some d) × (1 ≤ d) × (d ≤ 16) → Agrees before s →
    (fault_of before (Outputs given) ≡ None) × Agrees (before ++ Outputs given ∷ []) (record s { outputs = Some d })
takes_outputs before s given d (none, number, some, few) agrees =
    (outputs_fault before s given agrees ∙ none, after_outputs before s given d agrees (unrepeated_count s.outputs given OutputCount none) number some few)

pub takes_input_names : (before : List Line) (s : State) (given names : List (List ℕ)) (repeated : Bool) →
    repeated ≡ is_some s.input_names → names ≡ given → naming_fault (is_some s.inputs) repeated (unwrap_or s.inputs 0) given ≡ None →
    s.inputs ≡ Some (length given) → Agrees before s →
    (fault_of before (InputNames given) ≡ None) × Agrees (before ++ InputNames given ∷ []) (record s { input_names = Some names })
takes_input_names before s given names repeated known same none counted agrees =
    rw same (
      input_names_fault before s given repeated known agrees
          ∙ none,
      after_input_names before s given agrees
          (unrepeated_names s.input_names (is_some s.inputs) (unwrap_or s.inputs 0) given (rw known at none)) counted,
    )

pub takes_output_names : (before : List Line) (s : State) (given names : List (List ℕ)) (repeated : Bool) →
    repeated ≡ is_some s.output_names → names ≡ given → naming_fault (is_some s.outputs) repeated (unwrap_or s.outputs 0) given ≡ None →
    s.outputs ≡ Some (length given) → Agrees before s →
    (fault_of before (OutputNames given) ≡ None) × Agrees (before ++ OutputNames given ∷ []) (record s { output_names = Some names })
takes_output_names before s given names repeated known same none counted agrees =
    rw same (
      output_names_fault before s given repeated known agrees
          ∙ none,
      after_output_names before s given agrees
          (unrepeated_names s.output_names (is_some s.outputs) (unwrap_or s.outputs 0) given (rw known at none)) counted,
    )

pub takes_type : (before : List Line) (s : State) (given : List (List ℕ)) (kind : LogicalType) →
    (type_fault (is_some s.logical_type) (is_filled s.terms) given ≡ None) × (words_of kind ≡ given) → Agrees before s →
    (fault_of before (TypeLine given) ≡ None) × Agrees (before ++ TypeLine given ∷ []) (record s { logical_type = Some kind })
takes_type before s given kind (none, said) agrees =
    (type_line_fault before s given agrees ∙ none, after_type before s given kind agrees (unrepeated_type s.logical_type (is_filled s.terms) given none) said)

pub takes_row : (before : List Line) (s : State) (n m : ℕ) (bytes : List ℕ) (term : Term) (terms : List Term) →
    terms ≡ s.terms ++ term ∷ [] → s.inputs ≡ Some n → s.outputs ≡ Some m →
    (term_fault (is_f s.logical_type) n m bytes ≡ None) × (product_of n m term ≡ term_of n bytes) × Fits n m term → Agrees before s →
    (fault_of before (Row bytes) ≡ None) × Agrees (before ++ Row bytes ∷ []) (record s { terms = terms })
takes_row before s n m bytes term terms more first second (none, same, fits) agrees =
    rw more (row_fault before s n m bytes agrees first second ∙ none, after_row before s n m bytes term agrees first second same fits)
