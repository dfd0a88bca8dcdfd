-- What a search begins with.
--     PreparedOf      the functions, those with renamed variables, if there are any, the rows that were found of them, and up to which size
--     IsImageOf v set image      the image of a set among the functions with renamed variables has the set's widths
--     IsPrepared renaming shared orbits found      tables, orbits and rows are of the functions with renamed variables
use Rattle.std.specs.Prelude.{◌≡◌, ℕ, IfSome, List, Option}
use Rattle.std.specs.List.{All}
use Rattle.definitions.specs.Problems.{TruthTables}
use Rattle.symmetries.specs.Orbits.{TakesWidths}
use Rattle.symmetries.specs.declared.orbits.Image.{Image}
use Rattle.symmetries.specs.Renamings.{RenamedOf, RenamingOf, renamed_of}
use Rattle.compaction.specs.Rows.{HoldsRows, RowsOf}

-- the functions, those with renamed variables, if there are any, the rows that were found of them, and the size of the largest sets of
-- which rows were to be found
pub record PreparedOf : Type 0 where
  pub problem : TruthTables
  pub renamed : Option RenamedOf
  pub found : List RowsOf
  pub end : ℕ

-- the image of a set has the set's widths
abbrev pub IsImageOf : PreparedOf → ℕ → Image → Type 0
IsImageOf v set image = TakesWidths v.problem (renamed_of v.problem v.renamed) set image.set image.variables

-- tables, orbits and rows are of the functions with renamed variables
pub record IsPrepared (renaming : RenamingOf) (shared : TruthTables) (orbits : Option TruthTables) (found : List RowsOf) : Type 0 where
  pub shared_is : shared ≡ renamed_of renaming.problem renaming.renamed
  pub orbits_are : IfSome orbits (λ o. o ≡ shared)
  pub found_of : All (HoldsRows shared) found
