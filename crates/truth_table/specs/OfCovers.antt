-- The truth tables of covers.
use Rattle.std.specs.Prelude.{◌≡◌, map}
use Rattle.definitions.specs.Functions.{table}
use Rattle.definitions.specs.Problems.{TruthTables}
use Rattle.pla_reader.specs.Covers.{NamedCover, functions_of}

-- the truth tables of a cover's functions
pub record AreTablesOf (cover : NamedCover) (t : TruthTables) : Type 0 where
  pub inputs : t.inputs ≡ cover.inputs
  pub tables : t.tables ≡ map (table cover.inputs) (functions_of cover)
