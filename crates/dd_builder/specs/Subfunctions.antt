-- Subfunctions, and how many nodes they take.
--     IsSubfunction order t level f      f is an output with the variables above a level fixed in some way
--     AreSubfunctions order t ws      each node denotes a subfunction of its level
--     most_on inputs outputs level, most_nodes inputs outputs      bounds on the nodes of a level, and of all levels
--     SizesAreFew, SubfunctionsAreFew, MostNodesFit      the laws
--     MadeSubfunctions s, KeepsSubfunctions s s'      a session that made only nodes of subfunctions, and one that goes on so
--     IsFresh s      the first session of a store in which nothing was made
use Rattle.std.specs.Prelude.{◌≡◌, ◌≢◌, ℕ, zero, suc, ◌+◌, ◌-◌, ◌*◌, ◌^◌, ◌<◌, ◌≤◌, nat_lt, if◌then◌else◌, List, [], length, slice_index, take}
use Rattle.std.specs.List.{Contains}
use Rattle.definitions.specs.Functions.{Function, SameFunction}
use Rattle.definitions.specs.Levels.{size_under}
use Rattle.definitions.specs.Orders.{IsOrder}
use Rattle.definitions.specs.Problems.{TruthTables, functions, outputs_of}
use Rattle.node_words.specs.Nodes.{AreNodeWords, AreUnequal, level_of, node_word}
use Rattle.node_words.specs.Meaning.{function_of, branch}
use Rattle.unique_table.specs.Plans.{order_of, levels_of, variable_at, output_at, fixed}
use Rattle.unique_table.specs.Sessions.{Knowledge, Knows, IsAlone, function_in}

-- f is an output with the variables above the level fixed to the bits of a path
pub record IsSubfunction (order : List ℕ) (t : TruthTables) (level : ℕ) (f : Function) : Type 0 where
  pub output : ℕ
  pub path : ℕ
  pub is_output : output < outputs_of t
  pub is_path : path < 2 ^ level
  pub same : SameFunction (length order) f (fixed (take level order) path (output_at t output))

-- each node denotes a subfunction of its level
abbrev pub AreSubfunctions : List ℕ → TruthTables → List ℕ → Type 0
AreSubfunctions order t ws = (p : ℕ) → slice_index ws p ≢ 0 →
    IsSubfunction order t (level_of (slice_index ws p)) (function_of order ws (p + 2))

-- how many functions of k variables depend on the first one
abbrev pub dependent : ℕ → ℕ
dependent k = 2 ^ 2 ^ k - 2 ^ 2 ^ (k - 1)

-- the most nodes of a level: on the last three levels the functions that depend on its variable, else the ways to fix the variables above it
abbrev pub most_on : ℕ → ℕ → ℕ → ℕ
most_on inputs outputs level = if nat_lt (inputs - level) 4 then dependent (inputs - level) else outputs * 2 ^ level

-- the most nodes of the levels above a level, together
abbrev pub most_above : ℕ → ℕ → ℕ → ℕ
most_above inputs outputs zero = 0
most_above inputs outputs (suc level) = most_above inputs outputs level + most_on inputs outputs level

-- the most nodes of all levels, together
abbrev pub most_nodes : ℕ → ℕ → ℕ
most_nodes inputs outputs = most_above inputs outputs inputs

-- the size of an order is at most `most_nodes`
abbrev pub SizesAreFew : Type 0
SizesAreFew = (n : ℕ) (F : List Function) (order : List ℕ) → IsOrder n order → size_under n F order ≤ most_nodes n (length F)

-- unequal nodes that denote subfunctions of their levels are at most as many as the order's size
abbrev pub SubfunctionsAreFew : Type 0
SubfunctionsAreFew = (order : List ℕ) (t : TruthTables) (ws : List ℕ) (count : ℕ) → IsOrder (length order) order →
    AreNodeWords (length order) ws → AreUnequal ws → AreSubfunctions order t ws →
    ((p : ℕ) → p < count → slice_index ws p ≢ 0) → count ≤ size_under (length order) (functions t) order

-- `most_nodes` is at most 131,310, about half of a store's places
abbrev pub MostNodesFit : Type 0
MostNodesFit = (inputs outputs : ℕ) → inputs ≤ 16 → outputs ≤ 16 → most_nodes inputs outputs ≤ 131310

-- the word of a node that denotes a subfunction of its level, with children that a session knows
pub record IsOfSubfunction (s : Knowledge) (w : ℕ) : Type 0 where
  pub level : ℕ
  pub low : ℕ
  pub high : ℕ
  pub word : w ≡ node_word level low high
  pub inside : level < levels_of s.store.plan
  pub knows_low : Knows s low
  pub knows_high : Knows s high
  pub function : IsSubfunction (order_of s.store.plan) s.store.plan.problem.value level
      (branch (variable_at s.store.plan level) (function_in s low) (function_in s high))

-- the session, and those that it was split or joined from, made only nodes of subfunctions
abbrev pub MadeSubfunctions : Knowledge → Type 0
MadeSubfunctions s = (w : ℕ) → Contains s.made w → IsOfSubfunction s w

-- from s to s' only nodes of subfunctions were made
abbrev pub KeepsSubfunctions : Knowledge → Knowledge → Type 0
KeepsSubfunctions s s' = MadeSubfunctions s → MadeSubfunctions s'

-- the only session of its store, which made nothing yet
pub record IsFresh (s : Knowledge) : Type 0 where
  pub alone : IsAlone s
  pub made : s.made ≡ []
