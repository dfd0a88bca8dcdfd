-- The widths that a block's cells need.
--     width_wanted p mask wanted x      the width of x over the set without it, if x is wanted, else 0
--     IsWidthRow p mask wanted row, AreWidthRows p masks needed rows      a set's widths; those of all sets of a block
--     wanted_count needed      how many widths are wanted
--     most_compactions, most_walked p      how many tables a block's widths take at most; how many there are for one low byte
--     WidthsOf      the rows of a block, and how many compactions they took
--     AreMembersAmong inputs masks needed, AreMembers p masks needed      what is wanted of each set are its members
--     HoldsWidths p set wanted row      a row holds the wanted widths
--     RowsOf, AreByteRows p low needed rows, HoldsRows p r      rows of sets with one low byte, each at its high byte
--     AreRowsFilled p low needed set decided old new, IsRowFilled p low needed set old new      some rows are filled; that of one set is
use Rattle.std.specs.Prelude.{◌≡◌, ◌≢◌, ℕ, ◌+◌, ◌-◌, ◌*◌, ◌^◌, ◌<◌, ◌==◌, IsTrue, List, [], if◌then◌else◌, sum_by, length, slice_index, get_or, count_ones, bit_and}
use Rattle.std.specs.Int.{bit_at}
use Rattle.definitions.specs.Orders.{has, members, without}
use Rattle.definitions.specs.Problems.{TruthTables, functions}
use Rattle.definitions.specs.Widths.{width}
use Rattle.compaction.specs.Strips.{low_variables}

-- the width of x over the set without it, if it is wanted
unfoldable pub width_wanted : TruthTables → ℕ → ℕ → ℕ → ℕ
width_wanted p mask wanted x =
    if bit_at wanted x == 1 then width p.inputs (functions p) (without x (members p.inputs mask)) x
    else 0

-- the widths of a set
abbrev pub IsWidthRow : TruthTables → ℕ → ℕ → List ℕ → Type 0
IsWidthRow p mask wanted row = (x : ℕ) → x < 16 → slice_index row x ≡ width_wanted p mask wanted x

-- those of all sets
pub record AreWidthRows (p : TruthTables) (masks needed : List ℕ) (rows : List (List ℕ)) : Type 0 where
  pub each : length rows ≡ length masks
  pub are : (i : ℕ) → i < length masks → IsWidthRow p (slice_index masks i) (slice_index needed i) (get_or rows i [])

-- how many widths are wanted
abbrev pub wanted_count : List ℕ → ℕ
wanted_count needed = sum_by count_ones needed

-- how many tables a block's widths take at most
abbrev pub most_compactions : ℕ
most_compactions = 2367

-- how many tables there are at most for one low byte
abbrev pub most_walked : TruthTables → ℕ
most_walked p = 2 ^ (p.inputs - low_variables p)

-- a row for each set of a block, and how many compactions were made
pub record WidthsOf : Type 0 where
  pub rows : List (List ℕ)
  pub compactions : ℕ

-- the variables that are wanted of each set are its members
abbrev pub AreMembersAmong : ℕ → List ℕ → List ℕ → Type 0
AreMembersAmong inputs masks needed = (i : ℕ) → i < length masks → (x : ℕ) → bit_at (slice_index needed i) x ≡ 1 →
    IsTrue (has (members inputs (slice_index masks i)) x)

abbrev pub AreMembers : TruthTables → List ℕ → List ℕ → Type 0
AreMembers p masks needed = AreMembersAmong p.inputs masks needed

-- a row holds the widths of the members that are wanted
abbrev pub HoldsWidths : TruthTables → ℕ → ℕ → List ℕ → Type 0
HoldsWidths p set wanted row = (x : ℕ) → x < 16 → bit_at wanted x ≡ 1 →
    slice_index row x ≡ width p.inputs (functions p) (without x (members p.inputs set)) x

-- what is wanted of the sets of n variables with a low byte, each at its high byte, and their rows
pub record RowsOf : Type 0 where
  pub inputs : ℕ
  pub low : ℕ
  pub needed : List ℕ
  pub rows : List (List ℕ)

-- the rows hold what is wanted of the sets with a low byte
pub record AreByteRows (p : TruthTables) (low : ℕ) (needed : List ℕ) (rows : List (List ℕ)) : Type 0 where
  pub each : length rows ≡ length needed
  pub are : (h : ℕ) → h < length needed → HoldsWidths p (h * 256 + low) (slice_index needed h) (get_or rows h [])

pub record HoldsRows (p : TruthTables) (r : RowsOf) : Type 0 where
  pub inputs : r.inputs ≡ p.inputs
  pub rows : AreByteRows p r.low r.needed r.rows

-- the rows of the sets that agree with `set` in the decided variables hold what is wanted of them, and the others are as they were
abbrev pub AreRowsFilled : TruthTables → ℕ → List ℕ → ℕ → ℕ → List (List ℕ) → List (List ℕ) → Type 0
AreRowsFilled p low needed set decided old new = (h : ℕ) → h < length needed →
    ((bit_and (h * 256 + low) decided ≡ set) → HoldsWidths p (h * 256 + low) (slice_index needed h) (get_or new h []))
    × ((bit_and (h * 256 + low) decided ≢ set) → get_or new h [] ≡ get_or old h [])

-- the row of one set holds what is wanted of it, and the others are as they were
abbrev pub IsRowFilled : TruthTables → ℕ → List ℕ → ℕ → List (List ℕ) → List (List ℕ) → Type 0
IsRowFilled p low needed set old new = (h : ℕ) → h < length needed →
    ((h * 256 + low ≡ set) → HoldsWidths p (h * 256 + low) (slice_index needed h) (get_or new h []))
    × ((h * 256 + low ≢ set) → get_or new h [] ≡ get_or old h [])
