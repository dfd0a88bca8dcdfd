-- A walk over the high variables, which fills the rows of what is wanted.
--     HasDecided t decided      the low variables and the members of the table's set are decided
--     AreWanted w set decided words      the words have the high byte of each wanted set that agrees with `set` in the decided variables
--     FillsRows t decided w old new      the rows of the sets that agree with the table's in the decided variables are filled
--     FillsOwn t w old new      the row of the table's own set is filled
use Rattle.std.specs.Prelude.{◌≡◌, ◌≢◌, ℕ, ◌+◌, ◌*◌, ◌<◌, List, length, slice_index, bit_and}
use Rattle.std.specs.Int.{bit_at}
use Rattle.subfunction_classes.specs.Table.{ClassesOf}
use Rattle.compaction.specs.HighBytes.{HasByte}
use Rattle.compaction.specs.Rows.{AreRowsFilled, IsRowFilled}
use Rattle.compaction.specs.Strips.{low_variables}
use Rattle.compaction.specs.declared.request.WidthRequest.{WidthRequest}

-- the low variables and the members of the table's set are decided
pub record HasDecided (t : ClassesOf) (decided : ℕ) : Type 0 where
  pub low : (y : ℕ) → y < low_variables t.problem → bit_at decided y ≡ 1
  pub set : bit_and t.set decided ≡ t.set

-- the words have the high byte of each wanted set that agrees with `set` in the decided variables
abbrev pub AreWanted : WidthRequest → ℕ → ℕ → List ℕ → Type 0
AreWanted w set decided words = (h : ℕ) → h < length w.needed.items → slice_index w.needed.items h ≢ 0 →
    bit_and (h * 256 + w.low) decided ≡ set → HasByte words h

-- the rows of the sets that agree with the table's in the decided variables hold their widths, and the others are as they were
abbrev pub FillsRows : ClassesOf → ℕ → WidthRequest → List (List ℕ) → List (List ℕ) → Type 0
FillsRows t decided w old new = AreRowsFilled t.problem w.low w.needed.items t.set decided old new

-- the row of the table's own set holds its widths, and the others are as they were
abbrev pub FillsOwn : ClassesOf → WidthRequest → List (List ℕ) → List (List ℕ) → Type 0
FillsOwn t w old new = IsRowFilled t.problem w.low w.needed.items t.set old new
