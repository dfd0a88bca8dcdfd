-- The lines of an input, one after the other.
use Rattle.std.proofs.Common.{◌≡◌, ℕ, ◌+◌, ◌≤◌, ◌<◌, zero, suc, min, refl, sym, ◌∙◌, ap, Bool, true, false, cond, not, ◌&&◌, List, [], ◌∷◌, ◌++◌, length, codes, Option, Some, None, is_some, unwrap_or, filter_map, Result, Ok, Err, IfOk, IfErr, inl, inr, arith}
use Rattle.std.specs.Option.{option_map, option_to_list}
use Rattle.std.specs.List.{range_with_len, list_all, prefix_len}
use Rattle.std.proofs.lemmas.Bool.{cases_lt}
use Rattle.std.proofs.lemmas.List.{length-append, take-append-le, append-nil}
use Rattle.std.proofs.lemmas.List.Elements.{filter_map-append}
use Rattle.std.proofs.Math.ListN.{get_or-append}
use Rattle.std.proofs.Math.Seq.{take-append_seam, get_or-append_seam}
use mathlib.Core.List.{append_assoc}
use Rattle.pla_reader.specs.declared.cover.Cover.{Cover}
use Rattle.pla_reader.specs.declared.errors.LineFault.{LineFault}
use Rattle.pla_reader.specs.declared.errors.LineFault.TheVariants.{MissingHead}
use Rattle.pla_reader.specs.declared.errors.PlaError.{PlaError}
use Rattle.pla_reader.specs.declared.errors.PlaError.TheVariants as pla_errors
use Rattle.pla_reader.specs.Text.{lines_of}
use Rattle.pla_reader.specs.Lines.{Line, is_end, description, said, line_said}
use Rattle.pla_reader.specs.Lines.Line.{Empty, End}
use Rattle.pla_reader.specs.Covers.{NamedCover, cover_of, first_or}
use Rattle.pla_reader.specs.Faults.{fault_of}
use Rattle.pla_reader.specs.Reading.{judged, end_faults, faults, Gives, HasFirst}
use Rattle.pla_reader.specs.Progress.{State, Agrees, IsCoverOf, IsEndError}
use Rattle.pla_reader.specs.Answering.{Answers}
use Rattle.pla_reader.proofs.TextLemmas.{one_more}
use Rattle.pla_reader.proofs.LineLemmas.{comes_known, inputs_known, outputs_known}
use Rattle.definitions.proofs.Lists.Ranges.{range_append}

abbrev goes_on : Line → Bool
goes_on line = not (is_end line)

-- the lines before have no fault and no end, and the program holds what they give
pub record Reached (lines rest : List Line) (number : ℕ) (s : State) : Type 0 where
  pub before : List Line
  pub whole : lines ≡ before ++ rest
  pub numbered : length before ≡ number
  pub open_so_far : list_all goes_on before ≡ true
  pub faultless : (k : ℕ) → k < length before → judged before k ≡ None
  pub agrees : Agrees before s

-- a line is judged by those before it alone
judged_front : (before more : List Line) (k : ℕ) → k < length before → judged (before ++ more) k ≡ judged before k
unfolding judged
judged_front before more k below = rw (take-append-le k before more (omega arith)) (rw (get_or-append before more Empty k below) refl)

judged_next : (before more : List Line) (line : Line) →
    judged (before ++ line ∷ more) (length before) ≡ option_map (λ (fault : LineFault). (length before + 1, fault)) (fault_of before line)
unfolding judged
judged_next before more line = rw (take-append_seam before (line ∷ more)) (rw (get_or-append_seam before line more Empty) refl)

all_more : (before : List Line) (line : Line) → list_all goes_on before ≡ true → goes_on line ≡ true → list_all goes_on (before ++ line ∷ []) ≡ true
all_more [] line all here = rw here refl
all_more (b ∷ before) line all here = grind (arith, goes_on, all_more before line)

pub reached_next : (lines rest : List Line) (line : Line) (number : ℕ) (s s' : State) → (here : Reached lines (line ∷ rest) number s) →
    is_end line ≡ false → (fault_of here.before line ≡ None) × Agrees (here.before ++ line ∷ []) s' → Reached lines rest (number + 1) s'
reached_next lines rest line number s s' here unended (none, agrees) =
    let before = here.before in
    let numbered = here.numbered in
    record {
      before = before ++ line ∷ [];
      whole = here.whole ∙ sym (append_assoc before (line ∷ []) rest);
      numbered = length-append before (line ∷ []) ∙ omega arith;
      open_so_far = all_more before line here.open_so_far (rw unended refl);
      faultless = λ k below. elim (cases_lt k (length before)) [
        | inl lower ↦ judged_front before (line ∷ []) k lower ∙ here.faultless k lower
        | inr upper ↦ (let last : k ≡ length before = omega (arith, length-append before (line ∷ [])) in rw last (judged_next before [] line ∙ rw none refl))
      ];
      agrees = agrees;
    }

-- the description of open lines goes on after them
description_open : (before rest : List Line) → list_all goes_on before ≡ true → description (before ++ rest) ≡ before ++ description rest
unfolding description
description_open [] rest all = refl
description_open (b ∷ before) rest all = by (goes_on b) refl (description_open before rest) where
  by : (t : Bool) → goes_on b ≡ t → (list_all goes_on before ≡ true → description (before ++ rest) ≡ before ++ description rest) →
      description (b ∷ before ++ rest) ≡ b ∷ before ++ description rest
  by true e more = rw e (rw (one_more (prefix_len goes_on (before ++ rest))) (ap (λ ls. b ∷ ls) (more (rw e at all))))
  by false e more = absurd cc

pub description_cons : (line : Line) (rest : List Line) → is_end line ≡ false → description (line ∷ rest) ≡ line ∷ description rest
unfolding description
description_cons line rest e = rw e (rw (one_more (prefix_len goes_on rest)) refl)

pub description_end : (rest : List Line) → description (End ∷ rest) ≡ []
unfolding description
description_end rest = refl

none_in_range : (h : ℕ → Option (ℕ × LineFault)) (a n : ℕ) → ((k : ℕ) → a ≤ k → k < a + n → h k ≡ None) → filter_map h (range_with_len a n) ≡ []
none_in_range h a zero none = refl
none_in_range h a (suc n) none = rw (none a (omega arith) (omega arith)) (none_in_range h (a + 1) n (λ k low high. none k (omega arith) (omega arith)))

-- the faults of lines whose first ones have none
faults_behind : (before more : List Line) → ((k : ℕ) → k < length before → judged before k ≡ None) →
    filter_map (judged (before ++ more)) (range_with_len 0 (length (before ++ more))) ≡ filter_map (judged (before ++ more))
    (range_with_len (length before) (length more))
faults_behind before more none =
    ap (λ n. filter_map (judged (before ++ more)) (range_with_len 0 n)) (length-append before more)
    ∙ ap (filter_map (judged (before ++ more))) (range_append 0 (length before) (length more))
    ∙ filter_map-append (judged (before ++ more)) (range_with_len 0 (length before)) (range_with_len (0 + length before) (length more))
    ∙ ap (λ found. found ++ filter_map (judged (before ++ more)) (range_with_len (0 + length before) (length more)))
    (none_in_range (judged (before ++ more)) 0 (length before) (λ k low high. judged_front before more k (omega arith) ∙ none k (omega arith)))
    ∙ ap (λ a. filter_map (judged (before ++ more)) (range_with_len a (length more))) (omega arith)

-- a faulty line is the first one
pub first_is_found : (lines rest : List Line) (line : Line) (number : ℕ) (s : State) (fault : LineFault) → (here : Reached lines (line ∷ rest) number s) →
    is_end line ≡ false → fault_of here.before line ≡ Some fault → HasFirst lines (number + 1) fault
unfolding faults
first_is_found lines rest line number s fault here unended some =
    let before = here.before in
    let more = line ∷ description rest in
    let stated : description lines ≡ before ++ more = ap description here.whole ∙ description_open before (line ∷ rest) here.open_so_far
    ∙ ap (λ ls. before ++ ls) (description_cons line rest unended) in
    let found : judged (before ++ more) (length before) ≡ Some (number + 1, fault) = judged_next before (description rest) line
    ∙ rw some (rw (here.numbered) refl) in
    record {
      others = filter_map (judged (before ++ more)) (range_with_len (length before + 1) (length (description rest))) ++ end_faults lines;
      first = rw stated (rw (faults_behind before more here.faultless) (rw found refl));
    }

-- the end, where the lines before it are all of the description
end_is_found : (lines : List Line) (before : List Line) → description lines ≡ before →
    ((k : ℕ) → k < length before → judged before k ≡ None) → faults lines ≡ end_faults lines
unfolding faults
end_is_found lines before stated none =
    rw stated (ap (λ found. found ++ end_faults lines) (none_in_range (judged before) 0 (length before) (λ k low high. none k (omega arith))))

ending : (lines before : List Line) (number : ℕ) (s : State) → description lines ≡ before → min (length before + 1) (length lines) ≡ number →
    ((k : ℕ) → k < length before → judged before k ≡ None) → Agrees before s →
    faults lines ≡ cond (is_some s.inputs && is_some s.outputs) [] ((number, MissingHead) ∷ [])
unfolding end_faults
ending lines before number s stated counted none agrees = grind (arith, end_is_found, comes_known)

-- what came, or else another value
first_known : {A : Type 0} (other : A) (known : Option A) (xs : List A) → xs ≡ option_to_list known → first_or other xs ≡ unwrap_or known other
first_known other None xs e = rw e refl
first_known other (Some x) xs e = rw e refl

-- the cover of the lines before
cover_known : (before : List Line) (s : State) (cover : NamedCover) → Agrees before s → IsCoverOf s cover → cover_of before ≡ cover
unfolding cover_of
cover_known before s cover agrees is = grind (arith, inputs_known, unwrap_or, outputs_known, codes, filter_map, first_known)

-- where a description ends, with its last line's number
pub record Ends (lines : List Line) (number : ℕ) (s : State) : Type 0 where
  pub before : List Line
  pub stated : description lines ≡ before
  pub counted : min (length before + 1) (length lines) ≡ number
  pub faultless : (k : ℕ) → k < length before → judged before k ≡ None
  pub agrees : Agrees before s

pub ends_at_end : (lines rest : List Line) (number : ℕ) (s : State) (line : Line) → (here : Reached lines (line ∷ rest) number s) →
    line ≡ End → Ends lines (number + 1) s
ends_at_end lines rest number s line here is = grind (arith, length-append, description_open, description_end, append-nil)

pub description_none : description [] ≡ []
unfolding description
description_none = refl

pub ends_with_input : (lines : List Line) (number : ℕ) (s : State) → Reached lines [] number s → Ends lines number s
ends_with_input lines number s here = grind (arith, append-nil, description_open, description_none)

pub gives_cover : (lines : List Line) (number : ℕ) (s : State) (cover : NamedCover) → Ends lines number s → IsCoverOf s cover → Gives lines cover
gives_cover lines number s cover ends is = record {
  faultless = ending lines ends.before number s ends.stated ends.counted ends.faultless ends.agrees ∙ rw is.inputs (rw is.outputs refl);
  given = ap cover_of ends.stated ∙ cover_known ends.before s cover ends.agrees is;
}

pub misses_head : (lines : List Line) (number : ℕ) (s : State) → Ends lines number s → (is_some s.inputs && is_some s.outputs) ≡ false →
    HasFirst lines number MissingHead
misses_head lines number s ends none = record {
  others = [];
  first = ending lines ends.before number s ends.stated ends.counted ends.faultless ends.agrees ∙ rw none refl;
}

-- the lines of an input without its first one
pub said_first : (text after line : List ℕ) → lines_of text ≡ line ∷ lines_of after → said text ≡ line_said line ∷ said after
unfolding said
said_first text after line e = rw e refl

pub said_none : (text : List ℕ) → length text ≡ 0 → said text ≡ []
unfolding said lines_of
said_none [] e = refl
said_none (b ∷ bs) e = absurd (omega (arith, e))

-- the line that ends the description
pub end_line : (line : Line) → is_end line ≡ true → line ≡ End
end_line line h = grind arith

-- the answer at the end of a description
pub answers_end : (bytes : List ℕ) (number : ℕ) (s : State) (r : Result Cover PlaError) → Ends (said bytes) number s →
    IfOk r (IsCoverOf s) → IfErr r (IsEndError s number) → Answers bytes r
answers_end bytes number s (Ok cover) ends ok err = gives_cover (said bytes) number s cover ends ok
answers_end bytes number s (Err (pla_errors.Line line fault)) ends ok err = rw (err.0) (rw (err.1) (misses_head (said bytes) number s ends (err.2)))
answers_end bytes number s (Err pla_errors.TooLong) ends ok err = err
answers_end bytes number s (Err pla_errors.Device) ends ok err = err
answers_end bytes number s (Err pla_errors.OutOfMemory) ends ok err = tt
