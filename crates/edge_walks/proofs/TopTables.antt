-- The tables of sets of the highest variables.
--     AreTopsTo P x y made tops      tables from which a walk can go on from x on, the first ones from y on
--     tops_start, tops_more      before the first one is added, and with one more
use Rattle.std.proofs.Common.{◌≡◌, ℕ, ◌+◌, ◌<◌, ◌≤◌, List, [], ◌∷◌, ◌++◌, length, slice_index_or, arith}
use Rattle.std.specs.List.{All}
use Rattle.std.proofs.lemmas.Bool.{cases_lt}
use Rattle.std.proofs.lemmas.List.{get_or_append_left, get_or_at, length_push}
use Rattle.definitions.specs.Problems.{TruthTables}
use Rattle.edge_walks.specs.Blocks.{StandsAt}
use Rattle.edge_walks.specs.Tables.{TableOf}
use Rattle.edge_walks.proofs.WalkTables.{stands_lower}

-- tables from which a walk can go on from x on, the first ones from y on
pub record AreTopsTo (P : TruthTables) (x y made : ℕ) (tops : List TableOf) : Type 0 where
  pub before : (k : ℕ) (d : TableOf) → k < made → StandsAt P y (slice_index_or tops k d)
  pub all : All (StandsAt P x) tops
  pub long : made ≤ length tops

module _ (P : TruthTables) (x y made : ℕ) where
  -- before the first one is added
  pub tops_start : (tops : List TableOf) → y ≡ x + 1 → made ≡ length tops → All (StandsAt P y) tops → AreTopsTo P x y made tops
  tops_start tops next all each = record {
    before = λ k d l. each k d (omega arith);
    all = λ k d l. stands_lower P x y (slice_index_or tops k d) next (each k d l);
    long = omega arith;
  }

  pub tops_more : (t : TableOf) (tops : List TableOf) → AreTopsTo P x y made tops → StandsAt P x t → AreTopsTo P x y made (tops ++ t ∷ [])
  tops_more t tops are stands = grind (arith, get_or_append_left, cases_lt, length_push, get_or_at)
