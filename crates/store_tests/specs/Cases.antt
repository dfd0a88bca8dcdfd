-- What the worked cases make.
--     two_tables      the truth tables of the conjunction and of the disjunction of two variables
--     AreFrom s level ids      ids that lie at a level or below it
use Rattle.std.specs.Prelude.{ℕ, ◌≤◌, Bool, true, false, List, [], ◌∷◌}
use Rattle.std.specs.List.{All}
use Rattle.unique_table.specs.Sessions.{Knowledge, Knows, depth_in}

-- the truth tables of the conjunction and of the disjunction of two variables
abbrev pub two_tables : List (List Bool)
two_tables = (false ∷ false ∷ false ∷ true ∷ []) ∷ (false ∷ true ∷ true ∷ true ∷ []) ∷ []

-- known ids, each of which lies at the level or below it
abbrev pub AreFrom : Knowledge → ℕ → List ℕ → Type 0
AreFrom s level ids = All (λ id. Knows s id × (level ≤ depth_in s id)) ids
