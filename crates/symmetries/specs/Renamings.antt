-- Functions whose variables were exchanged in pairs, so that other ones are the lowest.
--     RenamedOf      such functions, and the exchange
--     IsRenamed p r      they have the values of p at the points with exchanged variables
--     RenamingOf      functions, and the ones with exchanged variables, if any were exchanged
--     renamed_of p renamed      the functions with exchanged variables; those of p if none were exchanged
use Rattle.std.specs.Prelude.{◌≡◌, ℕ, ◌^◌, ◌<◌, Option, Some, None, slice_index}
use Rattle.definitions.specs.Problems.{TruthTables, outputs_of, value_at}
use Rattle.symmetries.specs.Exchanges.{IsExchange}
use Rattle.symmetries.specs.Images.{AreImages}
use Rattle.symmetries.specs.Orbits.{ExchangeOf}

-- functions with exchanged variables, and the exchange
pub record RenamedOf : Type 0 where
  pub problem : TruthTables
  pub exchange : ExchangeOf

-- the functions have the values of p at the points with exchanged variables
pub record IsRenamed (p : TruthTables) (r : RenamedOf) : Type 0 where
  pub inputs : r.problem.inputs ≡ p.inputs
  pub outputs : outputs_of r.problem ≡ outputs_of p
  pub is_exchange : IsExchange p.inputs r.exchange.partners
  pub images_are : AreImages p.inputs r.exchange.partners r.exchange.images
  pub values : (j k : ℕ) → j < outputs_of p → k < 2 ^ p.inputs → value_at r.problem j k ≡ value_at p j (slice_index r.exchange.images k)

-- functions, and the ones with exchanged variables, if any were exchanged
pub record RenamingOf : Type 0 where
  pub problem : TruthTables
  pub renamed : Option RenamedOf

-- the functions with exchanged variables
abbrev pub renamed_of : TruthTables → Option RenamedOf → TruthTables
renamed_of p None = p
renamed_of p (Some r) = r.problem
