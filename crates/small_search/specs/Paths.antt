-- The subfunctions over the sets on the way to a set.
--     HoldValues p set tables size      the values over `set` stand at `size` in `tables`, if it has up to three variables
--     HoldNumbers p set classes size d      the class table of `set` stands at `size` in `classes`, if it has more
--     HoldPath p set tables      HoldValues and HoldNumbers hold of each set that has the variables of `set` from some bound on, at its size
use Rattle.std.specs.Prelude.{◌≡◌, ℕ, ◌+◌, ◌-◌, ◌*◌, ◌/◌, ◌^◌, ◌<◌, ◌≤◌, List, count_ones, length, slice_index_or}
use Rattle.definitions.specs.Problems.{TruthTables}
use Rattle.pair_numbering.specs.declared.numbers.MaskedNumbers.{MaskedNumbers}
use Rattle.subfunction_classes.specs.Table.{HoldsClasses, classes_of}
use Rattle.small_search.specs.ValuePlaces.{values_at}
use Rattle.small_search.specs.Values.{set_values}
use Rattle.small_search.specs.declared.tables.PathTables.{PathTables}

abbrev pub HoldValues : TruthTables → ℕ → PathTables → ℕ → Type 0
HoldValues p set tables size = count_ones set ≤ 3 → values_at tables.entries tables.values.items size ≡ set_values p set

abbrev pub HoldNumbers : TruthTables → ℕ → List MaskedNumbers → ℕ → MaskedNumbers → Type 0
HoldNumbers p set classes size d =
    let table = slice_index_or classes (size - 4) d in
    3 < count_ones set → HoldsClasses (classes_of p set) table.numbers.items table.masks.items

pub record HoldPath (p : TruthTables) (set : ℕ) (tables : PathTables) : Type 0 where
  pub entries_are : tables.entries ≡ length p.tables * 2 ^ p.inputs
  pub long : length tables.values.items ≡ 2 * tables.entries
  pub many : p.inputs ≤ 3 + length tables.classes.items
  pub values : (k : ℕ) → HoldValues p (set / 2 ^ k * 2 ^ k) tables (count_ones (set / 2 ^ k))
  pub numbers : (k : ℕ) (d : MaskedNumbers) → HoldNumbers p (set / 2 ^ k * 2 ^ k) tables.classes.items (count_ones (set / 2 ^ k)) d
