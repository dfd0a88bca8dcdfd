-- Strips: a table is cut into strips of equally many entries; equal strips are stored once, and each has a number, its name.
--     strip numbers len k, unrolled outer numbers len      strip k of the stored entries; the table's entries, where `outer` has the names of its strips
--     names_of pairs      the names in pairs of strips, one behind the other
--     AreNamed outer numbers len      each strip that is named stands whole
use Rattle.std.specs.Prelude.{◌≡◌, ℕ, ◌*◌, ◌<◌, List, [], ◌∷◌, take, drop, length, slice_index}
use Rattle.std.specs.List.{flat_map}

-- strip k of the stored entries, if each strip has `len` entries
unfoldable pub strip : List ℕ → ℕ → ℕ → List ℕ
strip numbers len k = take len (drop (k * len) numbers)

-- all entries of the table whose strips have the names in `outer`
unfoldable pub unrolled : List ℕ → List ℕ → ℕ → List ℕ
unrolled outer numbers len = flat_map (strip numbers len) outer

-- the names in pairs, one behind the other
unfoldable pub names_of : List (ℕ × ℕ) → List ℕ
names_of pairs = flat_map (λ p. p.0 ∷ p.1 ∷ []) pairs

-- each strip of `len` entries whose name is in `outer` is stored whole
pub record AreNamed (outer numbers : List ℕ) (len : ℕ) : Type 0 where
  pub count : ℕ
  pub whole : length numbers ≡ count * len
  pub within : (i : ℕ) → i < length outer → slice_index outer i < count
