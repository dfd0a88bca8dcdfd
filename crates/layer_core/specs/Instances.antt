-- The problem instance that cells belong to, a layer as the machine has it, and what contracts see of a result.
--     InstanceOf, instance_of problem pairs limit, cell_for t mask      a problem instance; the cell of a mask for it
--     HoldsInstance t lower_bounds      the fields of an instance: its pairs are of its variables, a pruned cost has room, and its lower bounds above sets
--     layout_of l      the masks and blocks of a layer
--     ResultOf      a mask with its cell
use Rattle.std.specs.Prelude.{◌≡◌, ℕ, ◌+◌, ◌^◌, ◌<◌, ◌≤◌, map, length}
use Rattle.std.specs.List.{range_with_len}
use Rattle.definitions.specs.Cells.{cell_of}
use Rattle.definitions.specs.Problems.{TruthTables, functions}
use Rattle.definitions.specs.declared.limits.Limit.{Limit}
use Rattle.definitions.specs.declared.limits.LowerBound.{LowerBound}
use Rattle.definitions.specs.KeptPairs.{KeptPairs}
use Rattle.definitions.specs.LowerBounds.{LowerBoundsOf, lower_bounds_with}
use Rattle.subset_layers.specs.Layers.{LayerOf, masks_of, blocks_of, block_place}
use Rattle.layer_core.specs.Machine.{Layout}

-- a problem instance: the functions, the pairs that an order must keep, the rule of the lower bound on the nodes above a set, and the bound
pub record InstanceOf : Type 0 where
  pub problem : TruthTables
  pub pairs : KeptPairs
  pub lower_bound : LowerBound
  pub bound : ℕ

abbrev pub instance_of : TruthTables → KeptPairs → Limit → InstanceOf
instance_of problem pairs limit = record { problem = problem; pairs = pairs; lower_bound = limit.lower_bound; bound = limit.bound }

-- an instance, with its lower bounds above sets
pub record HoldsInstance (t : InstanceOf) (lower_bounds : LowerBoundsOf) : Type 0 where
  pub pairs : t.pairs.inputs ≡ t.problem.inputs
  pub few : t.problem.inputs ≤ 16
  pub room : t.bound + 1 < 2 ^ 32
  pub lower_bounds_are : lower_bounds ≡ lower_bounds_with t.problem t.lower_bound

-- the cell (cost, variable) of a mask
abbrev pub cell_for : InstanceOf → ℕ → ℕ × ℕ
cell_for t mask = cell_of t.problem.inputs (functions t.problem) t.pairs.pairs t.lower_bound t.bound mask

-- the masks of a layer, and their blocks
abbrev pub layout_of : LayerOf → Layout
layout_of l = record {
  masks = masks_of l;
  block_of = map (block_place l) (range_with_len 0 (length (masks_of l)));
  blocks = length (blocks_of l);
}

-- a mask with its cell, and the problem instance that the cell belongs to
pub record ResultOf : Type 0 where
  pub instance : InstanceOf
  pub mask : ℕ
  pub cell : ℕ × ℕ
