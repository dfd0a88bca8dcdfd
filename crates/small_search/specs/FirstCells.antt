-- The cells of the first sets, in the order of their masks.
--     IsFew t set cost      a cost within the bound is at most 2^20 a member
--     AreFewCells t count cells      the cell of each set whose mask is below `count`, of such a cost
use Rattle.std.specs.Prelude.{ℕ, ◌*◌, ◌^◌, ◌<◌, ◌≤◌, List, count_ones, slice_index_or}
use Rattle.subset_layers.specs.declared.costs.Cell.{Cell}
use Rattle.layer_core.specs.Pairing.{no_cell}
use Rattle.layer_core.specs.Instances.{InstanceOf}
use Rattle.solutions.specs.Bounded.{AreFirstCells}

abbrev pub IsFew : InstanceOf → ℕ → ℕ → Type 0
IsFew t set cost = cost ≤ t.bound → cost ≤ count_ones set * 2 ^ 20

pub record AreFewCells (t : InstanceOf) (count : ℕ) (cells : List Cell) : Type 0 where
  pub first : AreFirstCells t count cells
  pub few : (mask : ℕ) → mask < count → IsFew t mask (slice_index_or cells mask no_cell).cost
