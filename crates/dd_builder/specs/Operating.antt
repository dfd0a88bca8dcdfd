-- Operations on functions, level by level.
--     IsFrom s from id      a known id that lies at a level or below it
--     HasNode a b, AreOperands s a b      two ids of which one is a node, and a session that knows them
--     Settles operation a b id      an operand or a terminal that has the operation's value whatever the functions of the operands are
--     IsSettled operation a b settled      an id that settles the operation, or None
--     IsCut s level id low high      an id seen as a node of a level, with two children below the level
--     IsCombined s from operation a b id      the id of an operation's result, which lies at a level or below it
--     AreCombined s s' operation a b id      the id of an operation's result, which lies no higher than the higher operand
use Rattle.std.specs.Prelude.{◌≡◌, ℕ, ◌<◌, ◌≤◌, ◌⊎◌, Bool, true, false, Option, Some, None}
use Rattle.definitions.specs.Functions.{Point}
use Rattle.node_words.specs.declared.operation.Operation.{Operation}
use Rattle.node_words.specs.Entries.{combine_values}
use Rattle.node_words.specs.Meaning.{branch}
use Rattle.unique_table.specs.Plans.{levels_of, variable_at}
use Rattle.unique_table.specs.Sessions.{Knowledge, Knows, Means, IsKnownBelow, combined_in, function_in, depth_in}

-- a known id that lies at a level or below it
pub record IsFrom (s : Knowledge) (from id : ℕ) : Type 0 where
  pub known : Knows s id
  pub level : from ≤ depth_in s id

-- one of two ids is a node: they are not both terminals
abbrev pub HasNode : ℕ → ℕ → Type 0
HasNode a b = a < 2 → 2 ≤ b

-- two known ids, one of which is a node
pub record AreOperands (s : Knowledge) (a b : ℕ) : Type 0 where
  pub first : Knows s a
  pub second : Knows s b
  pub node : HasNode a b

-- an operand or a terminal that has the operation's value, whatever values the ids that are no terminals have
pub record Settles (operation : Operation) (a b id : ℕ) : Type 0 where
  pub value : (v : ℕ → Bool) → v 0 ≡ false → v 1 ≡ true → v id ≡ combine_values operation (v a) (v b)
  pub origin : (id < 2) ⊎ ((id ≡ a) ⊎ (id ≡ b))

-- the id that settles the operation; if it is None, one of the operands is a node
abbrev pub IsSettled : Operation → ℕ → ℕ → Option ℕ → Type 0
IsSettled operation a b (Some id) = Settles operation a b id
IsSettled operation a b None = HasNode a b

-- an id seen as a node of a level: where the level's variable is 1 it has the function of `high`, else the function of `low`
pub record IsCut (s : Knowledge) (level id low high : ℕ) : Type 0 where
  pub known : Knows s id
  pub low_below : IsKnownBelow s level low
  pub high_below : IsKnownBelow s level high
  pub function : (p : Point) →
      function_in s id p ≡ branch (variable_at s.store.plan level) (function_in s low) (function_in s high) p

-- the id of the result of an operation on two ids, which lies at the level `from` or below it
pub record IsCombined (s : Knowledge) (from : ℕ) (operation : Operation) (a b id : ℕ) : Type 0 where
  pub means : Means s id (combined_in s operation a b)
  pub level : from ≤ depth_in s id

-- in a session that went on, the id of an operation's result lies at each level, or below it, at which or below which both operands lay
abbrev pub AreCombined : Knowledge → Knowledge → Operation → ℕ → ℕ → ℕ → Type 0
AreCombined s s' operation a b id = (from : ℕ) → from ≤ levels_of s.store.plan → IsFrom s from a → IsFrom s from b →
    IsCombined s' from operation a b id
