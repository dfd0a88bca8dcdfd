-- What a search begins with.
--     StartOf      the functions, and the pairs that the search keeps
--     IsStartFor problem P s      s has these functions, and pairs that a search may keep if P is required
use Rattle.std.specs.Prelude.{◌≡◌, List}
use Rattle.definitions.specs.Pairs.{Pair}
use Rattle.definitions.specs.Problems.{TruthTables, functions}
use Rattle.symmetries.specs.SymmetricPairs.{IsHarmless}

-- the functions, and the pairs that the search keeps
pub record StartOf : Type 0 where
  pub problem : TruthTables
  pub kept : List Pair

-- s has these functions, and pairs that a search may keep if P is required
pub record IsStartFor (problem : TruthTables) (P : List Pair) (s : StartOf) : Type 0 where
  pub problem_is : s.problem ≡ problem
  pub harmless : IsHarmless problem.inputs (functions problem) P s.kept
