-- Numbering by cells: the cell of a pair of classes is 0, or one more than the number of the pair.
--     AreClasses classes p, cell classes p      both halves of a pair are classes; the pair's cell
--     Celled ps join classes cells out masks j      the numbering has come to pair j
--     Fronted masks x numbers rank cells out all count j      the numbering has come to pair j of a table; the masks met so far stand in front
--     AreCelled pairs block cells out all count      the numbering has come to the beginning of a block
use Rattle.std.specs.Prelude.{◌≡◌, ◌≢◌, ℕ, ◌+◌, ◌*◌, ◌/◌, ◌^◌, ◌<◌, ◌≤◌, List, take, length, get_or}
use Rattle.subfunction_classes.specs.Dependence.{joined_mask}
use Rattle.subfunction_classes.specs.Places.{pairs}
use Rattle.subfunction_classes.specs.Made.{Made}
use Rattle.pair_numbering.specs.declared.masks.MaskedPairs.{MaskedPairs}

module _ (classes : ℕ) where
  abbrev pub AreClasses : ℕ × ℕ → Type 0
  AreClasses p = (p.0 < classes) × (p.1 < classes)

  abbrev pub cell : ℕ × ℕ → ℕ
  cell p = p.0 * classes + p.1

-- a cell has the number of the first pair that it is of
pub record Celled (ps : List (ℕ × ℕ)) (join : ℕ × ℕ → ℕ) (classes : ℕ) (cells out masks : List ℕ) (j : ℕ) : Type 0 where
  pub made : Made 0 ps join out masks j
  pub room : length cells ≡ classes * classes
  pub filled : (p : ℕ × ℕ) → AreClasses classes p → get_or cells (cell classes p) 0 ≢ 0 →
      (i : ℕ) × (i < j) × (get_or ps i (0, 0) ≡ p) × (get_or cells (cell classes p) 0 ≡ get_or out i 0 + 1)
      × ((k : ℕ) → k < i → get_or ps k (0, 0) ≢ p)
  pub empty : (p : ℕ × ℕ) → AreClasses classes p → get_or cells (cell classes p) 0 ≡ 0 → (i : ℕ) → i < j → get_or ps i (0, 0) ≢ p

-- the masks met so far stand at the front of a list
pub record Fronted (masks : List ℕ) (x : ℕ) (numbers : List ℕ) (rank : ℕ) (cells out all : List ℕ) (count j : ℕ) : Type 0 where
  pub long : length all ≡ length numbers / 2
  pub few : count ≤ j
  pub celled : Celled (pairs numbers (2 ^ rank)) (joined_mask masks x) (length masks) cells out (take count all) j

-- the numbering has come to a block
abbrev pub AreCelled : MaskedPairs → ℕ → List ℕ → List ℕ → List ℕ → ℕ → Type 0
AreCelled p block cells out all count =
    Fronted p.masks.now p.x p.entries.numbers p.entries.rank cells out all count (block * 2 ^ p.entries.rank)
