-- Tables kept in strips: entries that differ in the low free variables only stand in one strip, and equal strips are kept once.
--     low_variables p      how many variables run inside a strip of the empty set
--     StripTableOf, IsStripTable outer rank numbers bits masks      strips whose names are paired by a variable
--     GrowsStrips t x grown labels joined      the strips with that variable too
--     masks_in_use numbers masks      the masks of the numbers that occur, rising
--     HoldsKeys t keys masks      the numbers tell the set's subfunctions apart, in any order; the masks are what the function with each number depends on
--     HoldsStrips t low outer numbers masks      the unrolled table holds the keys of t; `low` parts the variables
--     AreDistinct t count      all subfunctions are distinct and depend on the whole set
--     HoldsStripTable      either of them
--     AreOfFirstSets p tables      the tables of the first sets, in the order of their masks
--     AreKnownTables p tables known      the tables of all sets of the first `known` variables
--     CanTakeLow x t      the variable is a low one outside the table's set
use Rattle.std.specs.Prelude.{◌≡◌, ℕ, ◌+◌, ◌*◌, ◌^◌, ◌<◌, ◌≤◌, IsFalse, min, List, Option, None, Some, map, length, reverse, slice_index, nat_eq}
use Rattle.std.specs.List.{filter, range_with_len}
use Rattle.definitions.specs.Orders.{has, variables}
use Rattle.definitions.specs.Problems.{TruthTables}
use Rattle.definitions.specs.Levels.{reach}
use Rattle.definitions.specs.Widths.{class_numbers, outside}
use Rattle.subfunction_classes.specs.Numbering.{ranks}
use Rattle.subfunction_classes.specs.PairTables.{AllBelow}
use Rattle.subfunction_classes.specs.Places.{pairs}
use Rattle.subfunction_classes.specs.Dependence.{dependence}
use Rattle.subfunction_classes.specs.Table.{ClassesOf, classes_of, functions_of, set_of, free_below}
use Rattle.pair_numbering.specs.Keys.{TellsPairs}
use Rattle.subfunction_classes.specs.Strips.{unrolled}
use Rattle.compaction.specs.ValueStrips.{AreStrips}

-- how many variables run inside a strip of the empty set
abbrev pub low_variables : TruthTables → ℕ
low_variables p = min p.inputs 8

-- strips, how many variables stand inside one and below the variable that pairs the names, and the mask of each number
pub record StripTableOf : Type 0 where
  pub outer : List ℕ
  pub rank : ℕ
  pub numbers : List ℕ
  pub bits : ℕ
  pub masks : List ℕ

-- strips of 2 ^ bits entries, whose names are paired by a variable above those inside a strip
pub record IsStripTable (outer : List ℕ) (rank : ℕ) (numbers : List ℕ) (bits : ℕ) (masks : List ℕ) : Type 0 where
  pub small_rank : bits + rank < 16
  pub len : length outer * 2 ^ bits ≤ 2 ^ 20
  pub few : length numbers ≤ 2 ^ 20
  pub few_masks : length masks ≤ 2 ^ 20
  pub whole : (blocks : ℕ) × (length outer ≡ blocks * (2 * 2 ^ rank))
  pub strips : AreStrips outer numbers (2 ^ bits)
  pub below : AllBelow numbers (length masks)

-- strips with that variable x too: all their entries tell the pairs of the entries apart, and the masks are those of the pairs
pub record GrowsStrips (t : StripTableOf) (x : ℕ) (grown labels joined : List ℕ) : Type 0 where
  pub strips : AreStrips grown labels (2 ^ t.bits)
  pub tells : TellsPairs t.masks x (pairs (unrolled t.outer t.numbers (2 ^ t.bits)) (2 ^ t.bits * 2 ^ t.rank))
      (unrolled grown labels (2 ^ t.bits)) joined
  pub below : AllBelow labels (length joined)
  pub few : length labels ≤ 2 ^ 20

-- the masks of the numbers that occur
unfoldable pub masks_in_use : List ℕ → List ℕ → List ℕ
masks_in_use numbers masks = map (λ k. slice_index masks k) (filter (has numbers) (variables (length masks)))

-- numbers by which the subfunctions of the set are told apart, and what the function with each number depends on
pub record HoldsKeys (t : ClassesOf) (keys masks : List ℕ) : Type 0 where
  pub few_inputs : t.problem.inputs ≤ 16
  pub few : length keys ≤ 2 ^ 20
  pub few_masks : length masks ≤ 2 ^ 20
  pub below : AllBelow keys (length masks)
  pub classes : class_numbers t.problem.inputs (functions_of t) (set_of t) ≡ ranks nat_eq keys
  pub labels : map (λ k. slice_index masks k) keys
      ≡ map (dependence t.problem.inputs) (reach (functions_of t) (reverse (outside t.problem.inputs (set_of t))))

-- a strip has an entry for each assignment of the variables below `low` outside the set
pub record HoldsStrips (t : ClassesOf) (low : ℕ) (outer numbers masks : List ℕ) : Type 0 where
  pub strips : AreStrips outer numbers (2 ^ free_below t.set low)
  pub keys : HoldsKeys t (unrolled outer numbers (2 ^ free_below t.set low)) masks
  pub below : AllBelow numbers (length masks)
  pub few_numbers : length numbers ≤ 2 ^ 20

-- all subfunctions over the set are distinct, there are so many of them, and each depends on the whole set
pub record AreDistinct (t : ClassesOf) (count : ℕ) : Type 0 where
  pub masks : List ℕ
  pub exact : length masks ≡ count
  pub keys : HoldsKeys t (range_with_len 0 count) masks
  pub full : (i : ℕ) → i < count → slice_index masks i ≡ t.set

-- if all are distinct nothing else is kept
unfoldable pub HoldsStripTable : ClassesOf → ℕ → Option ℕ → List ℕ → List ℕ → List ℕ → Type 0
HoldsStripTable t low None outer numbers masks = HoldsStrips t low outer numbers masks
HoldsStripTable t low (Some count) outer numbers masks = AreDistinct t count

-- the tables of the first sets, in the order of their masks
abbrev pub AreOfFirstSets : TruthTables → List ClassesOf → Type 0
AreOfFirstSets p tables = tables ≡ map (classes_of p) (range_with_len 0 (length tables))

-- the tables of all sets of the first `known` variables, which are low
pub record AreKnownTables (p : TruthTables) (tables : List ClassesOf) (known : ℕ) : Type 0 where
  pub low : known ≤ low_variables p
  pub many : length tables ≡ 2 ^ known
  pub first : AreOfFirstSets p tables

-- the variable is a low one outside the table's set
abbrev pub CanTakeLow : ℕ → ClassesOf → Type 0
CanTakeLow x t = (x < low_variables t.problem) × IsFalse (has (set_of t) x)
