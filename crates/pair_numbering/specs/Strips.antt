-- Class tables whose entries are paired, as they stand or in strips.
--     PairedTable      a class table whose entries are paired by a variable
--     laid_out now names numbers len      the entries of a table, or of the strips of pairs of names
--     strips_at now names block      the two strips of a block
--     IsLaid now names numbers rank      these entries are paired by a variable
--     ArePairedStrips names numbers bits classes      strips of 2 ^ bits entries, all below `classes`, that are named in pairs
use Rattle.std.specs.Prelude.{ℕ, ◌+◌, ◌*◌, ◌^◌, ◌<◌, ◌≤◌, List, Option, None, Some, length, get_or}
use Rattle.subfunction_classes.specs.PairTables.{AllBelow, IsPaired}
use Rattle.subfunction_classes.specs.Strips.{AreNamed, names_of, unrolled}

-- a table whose entries come in pairs, in blocks of 2 ^ rank of them
pub record PairedTable : Type 0 where
  pub numbers : List ℕ
  pub rank : ℕ

-- the entries of a table as it stands, or of the two strips of each pair of names, one behind the other
abbrev pub laid_out : {R : Type 0} → (R → List (ℕ × ℕ)) → Option R → List ℕ → ℕ → List ℕ
laid_out now None numbers len = numbers
laid_out now (Some names) numbers len = unrolled (names_of (now names)) numbers len

-- the strips of a block: those that stand next in a table, or those that are named
abbrev pub strips_at : {R : Type 0} → (R → List (ℕ × ℕ)) → Option R → ℕ → ℕ × ℕ
strips_at now None block = (2 * block, 2 * block + 1)
strips_at now (Some names) block = get_or (now names) block (0, 0)

-- these entries are paired by a variable that stands above those inside a strip
unfoldable pub IsLaid : {R : Type 0} → (R → List (ℕ × ℕ)) → Option R → List ℕ → ℕ → Type 0
IsLaid now None numbers rank = IsPaired numbers rank
IsLaid now (Some names) numbers rank = AreNamed (names_of (now names)) numbers (2 ^ rank) × (rank < 16)
    × (length numbers ≤ 2 ^ 20) × (length (now names) * 2 * 2 ^ rank ≤ 2 ^ 20)

-- pairs of strips that stand whole, and no more entries than a table may have
pub record ArePairedStrips (names : List (ℕ × ℕ)) (numbers : List ℕ) (bits classes : ℕ) : Type 0 where
  pub named : AreNamed (names_of names) numbers (2 ^ bits)
  pub narrow : bits < 16
  pub few : length numbers ≤ 2 ^ 20
  pub small : length names * 2 * 2 ^ bits ≤ 2 ^ 20
  pub below : AllBelow numbers classes
