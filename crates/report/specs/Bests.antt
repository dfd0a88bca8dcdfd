-- What a search finds.
--     IsBestFor problem P certify b      the first order of the fewest nodes among those that keep the pairs, and its certificate's cells if asked for
use Rattle.std.specs.Prelude.{◌≡◌, Bool, IfSome, is_some, map, List}
use Rattle.definitions.specs.Pairs.{Pair}
use Rattle.definitions.specs.Problems.{TruthTables, functions}
use Rattle.definitions.specs.Certificates.{certificate_of}
use Rattle.definitions.specs.Listed.{listed}
use Rattle.solutions.specs.Solutions.{IsOptimumFor}
use Rattle.report.specs.declared.best.Best.{Best}

-- the first order of the fewest nodes among those that keep the pairs, and the cells of its certificate if that is asked for
pub record IsBestFor (problem : TruthTables) (P : List Pair) (certify : Bool) (b : Best) : Type 0 where
  pub optimum : IsOptimumFor problem P b.optimum
  pub asked : is_some b.cells ≡ certify
  pub cells : IfSome b.cells (λ v. map listed v.items ≡ (certificate_of problem.inputs (functions problem) P b.optimum.order).cells)
