-- The machine's state that a core shows.
use Rattle.std.specs.Prelude.{ℕ, ◌≤◌, map, length, Option}
use Rattle.std.specs.Option.{option_map}
use Rattle.layer_core.specs.Machine.{World}
use Rattle.layer_core.specs.Rights.{Right}
use Rattle.subset_layers.specs.declared.costs.Cell.{Cell}
use Rattle.layer_core.specs.Marked.{marks_of}
use Rattle.layer_core.specs.declared.machine.Core.TheInside.{Inside}
use Rattle.layer_core.specs.Instances.{layout_of}
use Rattle.layer_core.specs.Pairing.{pair_of}

abbrev pub cell_of : Option Cell → Option (ℕ × ℕ)
cell_of c = option_map pair_of c

abbrev pub shown : Inside → World
shown c = record {
  layout = layout_of c.layer;
  counter = c.counter;
  cells = map cell_of c.cells.items;
  workers = map marks_of c.workers.items;
}

-- the machine's state is right, whatever the filled cells have, and there are at most 64 workers
abbrev pub IsSound : Inside → Type 0
IsSound c = Right (λ mask cell. Unit {0}) (shown c) × (length c.workers.items ≤ 64)
