-- What a result shows and keeps.
use Rattle.std.specs.Prelude.{◌≡◌, ◌<◌, ◌^◌}
use Rattle.layer_core.specs.declared.results.CellResult.TheInside.{Inside}
use Rattle.layer_core.specs.Instances.{ResultOf, instance_of, cell_for}
use Rattle.layer_core.specs.Pairing.{pair_of}

abbrev pub result_shown : Inside → ResultOf
result_shown r = record {
  instance = instance_of r.problem.value r.pairs.value r.limit.value;
  mask = r.mask;
  cell = pair_of r.cell;
}

-- the cell is the one that the definition gives, and fits a word
pub record IsResult (r : Inside) : Type 0 where
  pub right : (result_shown r).cell ≡ cell_for (result_shown r).instance r.mask
  pub cost : r.cell.cost < 2 ^ 32
  pub variable : r.cell.variable < 32
