-- Strips of 256 points, four words each, of which equal ones are stored once.
--     number_in first strips place      the number of the value at a place of strips that stand one behind the other
--     NamesStrips values outer strips      `outer` names a stored strip for each strip of the values
--     AddsStrips old new words      the strips of some words stand behind the others
use Rattle.std.specs.Prelude.{◌≡◌, ℕ, ◌+◌, ◌*◌, ◌/◌, ◌%◌, ◌<◌, ◌≤◌, Bool, false, List, [], length, slice_index, get_or}
use Rattle.definitions.specs.Problems.{packed_bit}
use Rattle.subfunction_classes.specs.Values.{number_of}
use Rattle.compaction.specs.declared.values.NamedStrips.{NamedStrips}

-- the number of the value at a place
unfoldable pub number_in : Bool → List (List ℕ) → ℕ → ℕ
number_in first strips place = number_of first (packed_bit (get_or strips (place / 256) []) (place % 256))

-- each strip is equal to the stored one that is named for it, and each stored one is named
pub record NamesStrips (values : List Bool) (outer : List ℕ) (strips : List (List ℕ)) : Type 0 where
  pub within : (i : ℕ) → i < length outer → slice_index outer i < length strips
  pub used : (k : ℕ) → k < length strips → (i : ℕ) × ((i < length outer) × (slice_index outer i ≡ k))
  pub few : length strips ≤ length outer
  pub labels : (i b : ℕ) → i < length outer → b < 256 →
      packed_bit (get_or strips (slice_index outer i) []) b ≡ get_or values (i * 256 + b) false

-- the strips of some words stand behind the others: if those name the values' strips and the words go on with these, all are named
pub record AddsStrips (old new : NamedStrips) (words : List ℕ) : Type 0 where
  pub long : length new.outer.items ≡ length old.outer.items + length words / 4
  pub room : length new.strips.keys ≤ length old.strips.keys + length words / 4
  pub names : (values : List Bool) → NamesStrips values old.outer.items old.strips.keys →
      ((k : ℕ) → k < length words * 64 → packed_bit words k ≡ get_or values (length old.outer.items * 256 + k) false) →
      NamesStrips values new.outer.items new.strips.keys
