-- The functions of a cover's truth tables.
--     tables_keep      they are those of the cover
--     tables_value      what a problem of the tables is
use Rattle.std.proofs.Common.{◌≡◌, map, sym, subst}
use Rattle.definitions.specs.Functions.{from_table, table}
use Rattle.definitions.specs.Problems.{TruthTables, functions}
use Rattle.definitions.proofs.Functions.Same.{AllSame, tables_same}
use Rattle.pla_reader.specs.Covers.{NamedCover, functions_of}
use Rattle.truth_table.specs.OfCovers.{AreTablesOf}

-- the functions of a cover's truth tables are those of the cover
pub tables_keep : (cover : NamedCover) (t : TruthTables) → AreTablesOf cover t → AllSame cover.inputs (functions t) (functions_of cover)
tables_keep cover t h =
    subst (λ ts. AllSame cover.inputs (map from_table ts) (functions_of cover)) (sym h.tables)
    (tables_same cover.inputs (functions_of cover))

-- what a problem of a cover's truth tables is
pub tables_value : (cover : NamedCover) (t : TruthTables) → AreTablesOf cover t →
    t ≡ record { inputs = cover.inputs; tables = map (table cover.inputs) (functions_of cover) }
tables_value cover t h = λ i. record { inputs = h.inputs i; tables = h.tables i }
