-- The cells of all sets in one list, for a bound that some order stays within.
--     IsBounded t      some order that keeps the pairs has at most the bound as its size
--     AreFirstCells t count cells      the list has the cell of each set whose mask is below `count` there, and a cost of 0 at that of the empty set
--     AreFlatCells t cells      it has those of all sets
--     HoldsCells t cells      it has them, and some order stays within the bound
--     AreCellsOfAll n cells      it does so for some instance of n variables
use Rattle.std.specs.Prelude.{◌≡◌, ℕ, ◌^◌, ◌<◌, ◌≤◌, List, length, slice_index_or}
use Rattle.definitions.specs.Orders.{IsOrder}
use Rattle.definitions.specs.Pairs.{Keeps}
use Rattle.definitions.specs.Problems.{functions}
use Rattle.definitions.specs.Levels.{size_under}
use Rattle.subset_layers.specs.declared.costs.Cell.{Cell}
use Rattle.layer_core.specs.Pairing.{no_cell, pair_of}
use Rattle.layer_core.specs.Instances.{InstanceOf, cell_for}

-- some order that keeps the pairs has at most the bound as its size
pub record IsBounded (t : InstanceOf) : Type 0 where
  pub order : List ℕ
  pub is_order : IsOrder t.problem.inputs order
  pub keeps : Keeps t.pairs.pairs order
  pub size : size_under t.problem.inputs (functions t.problem) order ≤ t.bound

-- the cell of each set whose mask is below `count` at its mask, and a cost of 0 at that of the empty set
pub record AreFirstCells (t : InstanceOf) (count : ℕ) (cells : List Cell) : Type 0 where
  pub many : length cells ≡ count
  pub none : (slice_index_or cells 0 no_cell).cost ≡ 0
  pub each : (mask : ℕ) → 0 < mask → mask < count → pair_of (slice_index_or cells mask no_cell) ≡ cell_for t mask

-- the cells of all sets
abbrev pub AreFlatCells : InstanceOf → List Cell → Type 0
AreFlatCells t cells = AreFirstCells t (2 ^ t.problem.inputs) cells

-- these cells, and some order stays within the bound
pub record HoldsCells (t : InstanceOf) (cells : List Cell) : Type 0 where
  pub bounded : IsBounded t
  pub all : AreFlatCells t cells

-- they are so for some instance of n variables
pub record AreCellsOfAll (n : ℕ) (cells : List Cell) : Type 0 where
  pub instance : InstanceOf
  pub inputs : instance.problem.inputs ≡ n
  pub few : n ≤ 16
  pub cells_are : HoldsCells instance cells
