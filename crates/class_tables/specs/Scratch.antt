-- Counting in rows that are lent.
--     most_entries p, AreLong      the entries of the largest class table; rows of one length
--     CountsMasks masks x ps count      how many distinct pairs have a variable in their masks
use Rattle.std.specs.Prelude.{◌≡◌, ◌==◌, ℕ, ◌*◌, ◌^◌, List, map, length, slice_index}
use Rattle.std.specs.Set.{distinct_count}
use Rattle.std.specs.List.{filter}
use Rattle.std.specs.Int.{bit_at}
use Rattle.definitions.specs.Problems.{TruthTables, outputs_of}
use Rattle.definitions.specs.Widths.{same_pair}
use Rattle.subfunction_classes.specs.Numbering.{ranks}
use Rattle.subfunction_classes.specs.Dependence.{joined_mask}

-- how many entries the largest class table of a problem has, that of the empty set
abbrev pub most_entries : TruthTables → ℕ
most_entries p = outputs_of p * 2 ^ p.inputs

-- rows of one length
pub record AreLong (len : ℕ) (next stamps marks first : List ℕ) : Type 0 where
  pub next_long : length next ≡ len
  pub stamps_long : length stamps ≡ len
  pub marks_long : length marks ≡ len
  pub first_long : length first ≡ len

-- so many distinct pairs have a mask with x: `joined` has one mask a distinct pair, told by its number
pub record CountsMasks (masks : List ℕ) (x : ℕ) (ps : List (ℕ × ℕ)) (count : ℕ) : Type 0 where
  pub joined : List ℕ
  pub many : length joined ≡ distinct_count same_pair ps
  pub labels : map (λ c. slice_index joined c) (ranks same_pair ps) ≡ map (joined_mask masks x) ps
  pub counted : count ≡ length (filter (λ m. bit_at m x == 1) joined)
