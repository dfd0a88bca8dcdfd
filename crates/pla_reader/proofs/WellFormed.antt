-- A cover that is read is well formed.
use Rattle.std.proofs.Common.{◌≡◌, ℕ, ◌+◌, ◌≤◌, zero, suc, refl, sym, ◌∙◌, ap, Bool, true, false, cond, ◌&&◌, nat_lt, List, [], ◌∷◌, ◌++◌, length, map, take, drop, codes, decimal, Option, Some, None, unwrap_or, is_some, filter_map, IfSome, ◌≢◌, ◌<◌, ◌⊎◌, inl, inr, take_all, get_or, arith, rules}
use Rattle.std.specs.Option.{option_to_list, option_map}
use Rattle.std.specs.List.{All, range_with_len, slice_index_or}
use Rattle.std.proofs.lemmas.Bool.Decides.{nat_tests}
use Rattle.std.proofs.lemmas.List.{length-map, length-take-le, length-drop, get_or-map}
use Rattle.std.proofs.lemmas.List.Elements.{All-append}
use Rattle.std.proofs.lemmas.List.FromFn.{length-map-range_with_len}
use Rattle.pla_reader.specs.declared.errors.LineFault.{LineFault}
use Rattle.pla_reader.specs.declared.errors.LineFault.TheVariants.{InputCount, OutputCount, MissingHead}
use Rattle.std.proofs.lemmas.Bool.{cases_eq}
use Rattle.std.proofs.Math.Seq.{take-suc}
use Rattle.definitions.specs.Texts.{number_of, is_number}
use Rattle.pla_reader.specs.Lines.{Line, description}
use Rattle.pla_reader.specs.Lines.Line.{Empty, Inputs, Outputs, InputNames, OutputNames, Products, LogicalType, End, UnknownWord, Row}
use Rattle.pla_reader.specs.Covers.{NamedCover, input_count, output_count, input_naming, output_naming, row_bytes, IsProductOf, IsCover, first_number, first_or, inputs_of, outputs_of, numbered_names, term_of, literal_of, in_on_set, cover_of}
use Rattle.pla_reader.specs.Faults.{comes, first_some, term_fault, head_fault, naming_fault, fault_of, is_small, takes_dont_cares}
use Rattle.pla_reader.specs.Reading.{judged, end_faults, end_number, faults, Gives}
use Rattle.pla_reader.proofs.LineLemmas.{names_wait, none_behind, one_behind, first_given, comes_known, inputs_known, outputs_known}
use Rattle.std.proofs.Math.Bool.{and-false}

-- how many inputs there may be
abbrev IsSmall : ℕ → Type 0
IsSmall d = (1 ≤ d) × (d ≤ 16)

-- whether a term's bytes are as many as the counts say
abbrev FitsCounts : Option ℕ → Option ℕ → List ℕ → Type 0
FitsCounts i o bytes = ((is_some i && is_some o) ≡ true) × (length bytes ≡ unwrap_or i 0 + unwrap_or o 0)

-- what lines without a fault give
record Known (before : List Line) (i o : Option ℕ) (xs ys : Option (List (List ℕ))) : Type 0 where
  inputs : filter_map input_count before ≡ option_to_list i
  outputs : filter_map output_count before ≡ option_to_list o
  input_names : filter_map input_naming before ≡ option_to_list xs
  output_names : filter_map output_naming before ≡ option_to_list ys
  small_inputs : IfSome i IsSmall
  small_outputs : IfSome o IsSmall
  input_names_number : IfSome xs (λ ns. i ≡ Some (length ns))
  output_names_number : IfSome ys (λ ns. o ≡ Some (length ns))
  rows : All (FitsCounts i o) (filter_map row_bytes before)

-- lines without a fault give some such things
record Sound (before : List Line) : Type 0 where
  i : Option ℕ
  o : Option ℕ
  xs : Option (List (List ℕ))
  ys : Option (List (List ℕ))
  known : Known before i o xs ys

start_sound : Sound []
start_sound = grind (arith, FitsCounts)

-- a count without a fault
small_count : (repeated : Bool) (given : List (List ℕ)) (outside : LineFault) → head_fault repeated given outside ≡ None →
    (repeated ≡ false) × (d : ℕ) × (first_number given ≡ Some d) × IsSmall d
small_count true given outside e = absurd cc
small_count false [] outside e = absurd cc
small_count false (w ∷ v ∷ vs) outside e = absurd cc
small_count false (w ∷ []) outside e = by (is_number w) refl where
  by : (t : Bool) → is_number w ≡ t → (false ≡ false) × (d : ℕ) × (first_number (w ∷ []) ≡ Some d) × IsSmall d
  by false n = absurd cc
  by true n = by_size (is_small w) refl where
    by_size : (t : Bool) → is_small w ≡ t → (false ≡ false) × (d : ℕ) × (first_number (w ∷ []) ≡ Some d) × IsSmall d
    by_size false m = absurd cc
    by_size true m = (refl, number_of w, refl, (grind (arith, nat_tests), grind (arith, nat_tests)))

-- names without a fault
counted_names : (counted repeated : Bool) (n : ℕ) (given : List (List ℕ)) → naming_fault counted repeated n given ≡ None →
    (counted ≡ true) × (repeated ≡ false) × (length given ≡ n)
counted_names counted repeated n given h = grind (arith, nat_tests)

-- the first of what may be there, after others
first_some_behind : (xs ys : List (Option LineFault)) → first_some (xs ++ ys) ≡ None → first_some ys ≡ None
first_some_behind [] ys e = e
first_some_behind (None ∷ xs) ys e = first_some_behind xs ys e
first_some_behind (Some x ∷ xs) ys e = absurd cc

-- a term without a fault
whole_term : (taken : Bool) (n m : ℕ) (bytes : List ℕ) → term_fault taken n m bytes ≡ None → length bytes ≡ n + m
unfolding term_fault
whole_term taken n m bytes e = grind (arith, nat_lt, first_some_behind, nat_tests)

-- a value that is there
some_is : (i : Option ℕ) (n : ℕ) → is_some i ≡ true → n ≡ unwrap_or i 0 → i ≡ Some n
some_is None n some e = absurd cc
some_is (Some x) n some e = ap Some (sym e)

none_is : (i : Option ℕ) → is_some i ≡ false → i ≡ None
none_is None e = refl
none_is (Some x) e = absurd cc

no_names : (xs : Option (List (List ℕ))) → is_some xs ≡ false → xs ≡ None
no_names None e = refl
no_names (Some x) e = absurd cc

no_rows : (i o i' o' : Option ℕ) (rows : List (List ℕ)) → (is_some i && is_some o) ≡ false → All (FitsCounts i o) rows → All (FitsCounts i' o') rows
no_rows i o i' o' rows missing all = λ k d inside. absurd (let both = (all k d inside).0 in cc)

-- a term after both counts
row_fits : (both : Bool) (found : Option LineFault) → cond both found (Some MissingHead) ≡ None → (both ≡ true) × (found ≡ None)
row_fits true found e = (refl, e)
row_fits false found e = absurd cc

-- after a line that gives nothing
keeps_sound : (before : List Line) (line : Line) → input_count line ≡ None → output_count line ≡ None → input_naming line ≡ None →
    output_naming line ≡ None → row_bytes line ≡ None → Sound before → Sound (before ++ line ∷ [])
keeps_sound before line a b c d e sound = let known = sound.known in record {
  i = sound.i;
  o = sound.o;
  xs = sound.xs;
  ys = sound.ys;
  known = record {
    inputs = none_behind input_count before line a ∙ known.inputs;
    outputs = none_behind output_count before line b ∙ known.outputs;
    input_names = none_behind input_naming before line c ∙ known.input_names;
    output_names = none_behind output_naming before line d ∙ known.output_names;
    small_inputs = known.small_inputs;
    small_outputs = known.small_outputs;
    input_names_number = known.input_names_number;
    output_names_number = known.output_names_number;
    rows = rw (none_behind row_bytes before line e) known.rows;
  };
}

-- one more line without a fault
sound_next : (before : List Line) (line : Line) → Sound before → fault_of before line ≡ None → Sound (before ++ line ∷ [])
unfolding fault_of
sound_next before Empty sound e = keeps_sound before Empty refl refl refl refl refl sound
sound_next before (Products given) sound e = keeps_sound before (Products given) refl refl refl refl refl sound
sound_next before (LogicalType given) sound e = keeps_sound before (LogicalType given) refl refl refl refl refl sound
sound_next before End sound e = keeps_sound before End refl refl refl refl refl sound
sound_next before UnknownWord sound e = keeps_sound before UnknownWord refl refl refl refl refl sound
sound_next before (Inputs given) sound e = let known = sound.known in
    let count = small_count (is_some sound.i) given InputCount (rw (comes_known input_count before sound.i known.inputs) at e) in
    let none : sound.i ≡ None = none_is sound.i count.0 in
    record {
      i = Some count.1;
      o = sound.o;
      xs = sound.xs;
      ys = sound.ys;
      known = record {
        inputs = first_given input_count before (Inputs given) sound.i count.1 known.inputs none count.2;
        outputs = none_behind output_count before (Inputs given) refl ∙ known.outputs;
        input_names = none_behind input_naming before (Inputs given) refl ∙ known.input_names;
        output_names = none_behind output_naming before (Inputs given) refl ∙ known.output_names;
        small_inputs = count.3;
        small_outputs = known.small_outputs;
        input_names_number = names_wait sound.xs sound.i (Some count.1) none known.input_names_number;
        output_names_number = known.output_names_number;
        rows = rw (none_behind row_bytes before (Inputs given) refl)
            (no_rows sound.i sound.o (Some count.1) sound.o (filter_map row_bytes before) (rw none refl) known.rows);
      };
    }
sound_next before (Outputs given) sound e = let known = sound.known in
    let count = small_count (is_some sound.o) given OutputCount (rw (comes_known output_count before sound.o known.outputs) at e) in
    let none : sound.o ≡ None = none_is sound.o count.0 in
    let missing : (is_some sound.i && is_some sound.o) ≡ false = rw none (and-false (is_some sound.i)) in
    record {
      i = sound.i;
      o = Some count.1;
      xs = sound.xs;
      ys = sound.ys;
      known = record {
        inputs = none_behind input_count before (Outputs given) refl ∙ known.inputs;
        outputs = first_given output_count before (Outputs given) sound.o count.1 known.outputs none count.2;
        input_names = none_behind input_naming before (Outputs given) refl ∙ known.input_names;
        output_names = none_behind output_naming before (Outputs given) refl ∙ known.output_names;
        small_inputs = known.small_inputs;
        small_outputs = count.3;
        input_names_number = known.input_names_number;
        output_names_number = names_wait sound.ys sound.o (Some count.1) none known.output_names_number;
        rows = rw (none_behind row_bytes before (Outputs given) refl)
            (no_rows sound.i sound.o sound.i (Some count.1) (filter_map row_bytes before) missing known.rows);
      };
    }
sound_next before (InputNames given) sound e = let known = sound.known in
    let checks =
    counted_names (is_some sound.i) (is_some sound.xs) (inputs_of before) given
    (rw (comes_known input_naming before sound.xs known.input_names) at
    (rw (comes_known input_count before sound.i known.inputs) at e)) in
    record {
      i = sound.i;
      o = sound.o;
      xs = Some given;
      ys = sound.ys;
      known = record {
        inputs = none_behind input_count before (InputNames given) refl ∙ known.inputs;
        outputs = none_behind output_count before (InputNames given) refl ∙ known.outputs;
        input_names = first_given input_naming before (InputNames given) sound.xs given known.input_names (no_names sound.xs checks.1) refl;
        output_names = none_behind output_naming before (InputNames given) refl ∙ known.output_names;
        small_inputs = known.small_inputs;
        small_outputs = known.small_outputs;
        input_names_number = some_is sound.i (length given) checks.0 (checks.2 ∙ inputs_known before sound.i known.inputs);
        output_names_number = known.output_names_number;
        rows = rw (none_behind row_bytes before (InputNames given) refl) known.rows;
      };
    }
sound_next before (OutputNames given) sound e = let known = sound.known in
    let checks =
    counted_names (is_some sound.o) (is_some sound.ys) (outputs_of before) given
    (rw (comes_known output_naming before sound.ys known.output_names) at
    (rw (comes_known output_count before sound.o known.outputs) at e)) in
    record {
      i = sound.i;
      o = sound.o;
      xs = sound.xs;
      ys = Some given;
      known = record {
        inputs = none_behind input_count before (OutputNames given) refl ∙ known.inputs;
        outputs = none_behind output_count before (OutputNames given) refl ∙ known.outputs;
        input_names = none_behind input_naming before (OutputNames given) refl ∙ known.input_names;
        output_names = first_given output_naming before (OutputNames given) sound.ys given known.output_names (no_names sound.ys checks.1) refl;
        small_inputs = known.small_inputs;
        small_outputs = known.small_outputs;
        input_names_number = known.input_names_number;
        output_names_number = some_is sound.o (length given) checks.0 (checks.2 ∙ outputs_known before sound.o known.outputs);
        rows = rw (none_behind row_bytes before (OutputNames given) refl) known.rows;
      };
    }
sound_next before (Row bytes) sound e = let known = sound.known in
    let fits = row_fits (comes input_count before && comes output_count before)
    (term_fault (takes_dont_cares before) (inputs_of before) (outputs_of before) bytes) e in
    let both : (is_some sound.i && is_some sound.o) ≡ true =
    rw (comes_known output_count before sound.o known.outputs) at
    (rw (comes_known input_count before sound.i known.inputs) at fits.0) in
    let whole : length bytes ≡ unwrap_or sound.i 0 + unwrap_or sound.o 0 =
    rw (outputs_known before sound.o known.outputs) at
    (rw (inputs_known before sound.i known.inputs) at
    (whole_term (takes_dont_cares before) (inputs_of before) (outputs_of before) bytes fits.1)) in
    record {
      i = sound.i;
      o = sound.o;
      xs = sound.xs;
      ys = sound.ys;
      known = record {
        inputs = none_behind input_count before (Row bytes) refl ∙ known.inputs;
        outputs = none_behind output_count before (Row bytes) refl ∙ known.outputs;
        input_names = none_behind input_naming before (Row bytes) refl ∙ known.input_names;
        output_names = none_behind output_naming before (Row bytes) refl ∙ known.output_names;
        small_inputs = known.small_inputs;
        small_outputs = known.small_outputs;
        input_names_number = known.input_names_number;
        output_names_number = known.output_names_number;
        rows = rw (one_behind row_bytes before (Row bytes) bytes refl)
            (All-append (FitsCounts sound.i sound.o) (filter_map row_bytes before) (bytes ∷ []) known.rows (search (rules, whole, both)));
      };
    }

-- the lines that come before each place of lines without a fault
sound_front : (lines : List Line) (k : ℕ) → k ≤ length lines → ((j : ℕ) → j < length lines → judged lines j ≡ None) → Sound (take k lines)
unfolding judged
sound_front lines zero within none = start_sound
sound_front lines (suc k) within none =
    rw (take-suc lines k Empty (omega arith))
    (sound_next (take k lines) (get_or lines k Empty) (sound_front lines k (omega arith) none)
    (unmapped (fault_of (take k lines) (get_or lines k Empty)) (none k (omega arith))))
  where
    unmapped : (x : Option LineFault) → option_map {U = ℕ × LineFault} (λ fault. (k + 1, fault)) x ≡ None → x ≡ None
    unmapped None e = refl
    unmapped (Some fault) e = absurd cc

-- what a list without values is made of
none_listed : {A : Type 0} (h : ℕ → Option A) (a n k : ℕ) → filter_map h (range_with_len a n) ≡ [] → a ≤ k → k < a + n → h k ≡ None
none_listed h a zero k e low high = absurd (omega arith)
none_listed {A = A} h a (suc n) k e low high = by (h a) refl (cases_eq k a) (λ rest above. none_listed h (a + 1) n k rest above (omega arith)) where
  by : (x : Option A) → h a ≡ x → (k ≡ a) ⊎ (k ≢ a) → (filter_map h (range_with_len (a + 1) n) ≡ [] → a + 1 ≤ k → h k ≡ None) → h k ≡ None
  by None first (inl same) more = rw same first
  by None first (inr apart) more = more (rw first at e) (omega arith)
  by (Some x) first other more = absurd cc

append_none : {A : Type 0} (xs ys : List A) → xs ++ ys ≡ [] → (xs ≡ []) × (ys ≡ [])
append_none [] ys e = (refl, e)
append_none (x ∷ xs) ys e = absurd cc

-- as many names as the count says
names_length : (n : ℕ) (front : List ℕ) (xs : Option (List (List ℕ))) (list : List (List (List ℕ))) → list ≡ option_to_list xs →
    IfSome xs (λ ns. Some n ≡ Some (length ns)) →
    length (first_or (numbered_names front n) list) ≡ n
unfolding numbered_names
names_length n front None list e counted = rw e (length-map-range_with_len (λ i. front ++ decimal i) 0 n)
names_length n front (Some ns) list e counted = rw e (let same : length ns ≡ n = cc in same)

all_products : (n m : ℕ) (rows : List (List ℕ)) → All (FitsCounts (Some n) (Some m)) rows → All (IsProductOf n m) (map (term_of n) rows)
unfolding term_of
all_products n m rows all = λ k d inside.
    let here : k < length rows = omega (arith, length-map rows (term_of n)) in
    let fits = (all k [] here).1 in
    let bytes = slice_index_or rows k [] in
    rw (get_or-map (term_of n) rows k [] d here) (record {
      literals = length-map (take n bytes) literal_of ∙ length-take-le n bytes (omega arith);
      outputs = length-map (drop n bytes) in_on_set ∙ length-drop n bytes ∙ omega arith;
    })

formed : (lines : List Line) (i o : Option ℕ) (xs ys : Option (List (List ℕ))) → Known lines i o xs ys → (is_some i && is_some o) ≡ true →
    IsCover (cover_of lines)
unfolding cover_of
formed lines None o xs ys known e = absurd cc
formed lines (Some n) None xs ys known e = absurd cc
formed lines (Some n) (Some m) xs ys known e =
    rw (inputs_known lines (Some n) known.inputs) (rw (outputs_known lines (Some m) known.outputs) (record {
      some_inputs = known.small_inputs.0;
      few_inputs = known.small_inputs.1;
      some_outputs = known.small_outputs.0;
      few_outputs = known.small_outputs.1;
      input_names = names_length n (codes "x") xs (filter_map input_naming lines) known.input_names known.input_names_number;
      output_names = names_length m (codes "y") ys (filter_map output_naming lines) known.output_names known.output_names_number;
      products = all_products n m (filter_map row_bytes lines) known.rows;
    }))

formed_behind : (lines : List Line) → Sound lines → (comes input_count lines && comes output_count lines) ≡ true → IsCover (cover_of lines)
formed_behind lines sound both =
    let known = sound.known in
    formed lines sound.i sound.o sound.xs sound.ys known
    (rw (comes_known output_count lines sound.o known.outputs) at (rw (comes_known input_count lines sound.i known.inputs) at both))

pub well_formed : (lines : List Line) (cover : NamedCover) → Gives lines cover → IsCover cover
unfolding faults end_faults
well_formed lines cover gives =
    let parts = append_none (filter_map (judged (description lines)) (range_with_len 0 (length (description lines)))) (end_faults lines) gives.faultless in
    let sound : Sound (description lines) =
    rw (take_all (length (description lines)) (description lines) (omega arith)) at
    (sound_front (description lines) (length (description lines)) (omega arith)
    (λ j inside. none_listed (judged (description lines)) 0 (length (description lines)) j parts.0 (omega arith) (omega arith))) in
    let both = no_end_fault (comes input_count (description lines) && comes output_count (description lines)) (end_number lines, MissingHead) parts.1 in
    rw (← gives.given) (formed_behind (description lines) sound both)
  where
    no_end_fault : (b : Bool) (fault : ℕ × LineFault) → cond b [] (fault ∷ []) ≡ [] → b ≡ true
    no_end_fault true fault e = refl
    no_end_fault false fault e = absurd cc
