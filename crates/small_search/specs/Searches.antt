-- What a search of a small problem is for.
--     ArePacked n m words      words of m truth tables of n variables, 1 to 16 of each; what stands behind a last point doesn't count
--     plain_instance p pairs      the functions and the pairs, with a bound that no cost reaches, and the lower bound by variables
--     IsPlainSearch t      this bound, this lower bound, and pairs of its variables that some order keeps
--     HoldsSearch n m words pairs      what holds of the fields of a search
use Rattle.std.specs.Prelude.{◌≡◌, ℕ, ◌*◌, ◌^◌, ◌≤◌, List, length}
use Rattle.definitions.specs.Problems.{TruthTables, packed_tables, words_per_table}
use Rattle.definitions.specs.KeptPairs.{KeptPairs}
use Rattle.definitions.specs.declared.limits.LowerBound.TheVariants.{Variables}
use Rattle.layer_core.specs.Instances.{InstanceOf}
use Rattle.solutions.specs.Bounded.{IsBounded}

pub record ArePacked (n m : ℕ) (words : List ℕ) : Type 0 where
  pub some_inputs : 1 ≤ n
  pub few_inputs : n ≤ 16
  pub some_outputs : 1 ≤ m
  pub few_outputs : m ≤ 16
  pub long : length words ≡ m * words_per_table n

abbrev pub plain_instance : TruthTables → KeptPairs → InstanceOf
plain_instance p pairs = record { problem = p; pairs = pairs; lower_bound = Variables; bound = 2 ^ 25 }

pub record IsPlainSearch (t : InstanceOf) : Type 0 where
  pub pairs_are : t.pairs.inputs ≡ t.problem.inputs
  pub bounded : IsBounded t
  pub by_variables : t.lower_bound ≡ Variables
  pub bound_is : t.bound ≡ 2 ^ 25

pub record HoldsSearch (n m : ℕ) (words : List ℕ) (pairs : KeptPairs) : Type 0 where
  pub packed : ArePacked n m words
  pub plain : IsPlainSearch (plain_instance (packed_tables n m words) pairs)
