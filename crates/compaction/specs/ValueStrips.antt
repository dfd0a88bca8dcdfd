-- The numbers of a problem's values in strips: runs of as many entries, of which equal ones are kept once.
--     AreStrips outer numbers len      each strip is whole, and used
--     HoldsValues p outer numbers len      strips that hold a problem's values
use Rattle.std.specs.Prelude.{◌≡◌, ℕ, ◌*◌, ◌^◌, ◌<◌, ◌≤◌, List, map, length, slice_index}
use Rattle.definitions.specs.Problems.{TruthTables, value_at}
use Rattle.subfunction_classes.specs.Strips.{unrolled}
use Rattle.subfunction_classes.specs.Values.{values_of, number_of}

-- strips of `len` entries, each of which is named in `outer`
pub record AreStrips (outer numbers : List ℕ) (len : ℕ) : Type 0 where
  pub count : ℕ
  pub whole : length numbers ≡ count * len
  pub within : (i : ℕ) → i < length outer → slice_index outer i < count
  pub used : (k : ℕ) → k < count → (i : ℕ) × ((i < length outer) × (slice_index outer i ≡ k))

-- strips whose entries are the numbers of a problem's values
pub record HoldsValues (p : TruthTables) (outer numbers : List ℕ) (len : ℕ) : Type 0 where
  pub strips : AreStrips outer numbers len
  pub values : unrolled outer numbers len ≡ map (number_of (value_at p 0 0)) (values_of p)
  pub few : length numbers ≤ 2 ^ 20
