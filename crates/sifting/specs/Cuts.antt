-- The refs that paths come to between two levels of a diagram.
--     code_of r      a ref as a number
--     split_ref nodes x r      the two cofactors of a ref by variable x: the children of a node of x, else the ref itself twice
--     NumbersFirst      nodes whose children are numbered by first occurrence of their keys
--     IsBuilt      levels whose functions are those of a diagram's roots
--     AreLevelsOf order nodes roots built      the levels that are built from a diagram
use Rattle.std.specs.Prelude.{◌≡◌, ℕ, ◌+◌, ◌<◌, ◌≤◌, Bool, false, if◌then◌else◌, List, length, map, slice_index, get_or, slice_get, nat_eq}
use Rattle.std.specs.declared.option.Option.{Option}
use Rattle.std.specs.declared.option.Option.TheVariants.{Some, None}
use Rattle.definitions.specs.declared.refs.Ref.{Ref}
use Rattle.definitions.specs.declared.refs.Ref.TheVariants.{Terminal, Place}
use Rattle.definitions.specs.declared.refs.Node.{Node}
use Rattle.definitions.specs.RefNumbers.{ref_named}
use Rattle.definitions.specs.Functions.{SameFunction}
use Rattle.definitions.specs.Diagrams.{value}
use Rattle.sifting.specs.Leveled.{Children, function_at, NumbersFirst}
use Rattle.sifting.specs.LevelLists.{IsLeveled, nodes_of}
use Rattle.sifting.specs.declared.build.BuiltLevels.{BuiltLevels}

-- a ref as a number: the terminals are 0 and 1, and the node at place k is k + 2
unfoldable pub code_of : Ref → ℕ
code_of (Terminal b) = if b then 1 else 0
code_of (Place k) = k + 2

-- the two cofactors of a ref by a variable, from the ref and the node that stands at its place, if there is one
abbrev pub split_node : ℕ → Ref → Option Node → Ref × Ref
split_node x r None = (r, r)
split_node x r (Some node) = if nat_eq node.variable x then (node.low, node.high) else (r, r)

-- the two cofactors of a ref by variable x: the children of a node of x, else the ref itself twice
unfoldable pub split_ref : List Node → ℕ → Ref → Ref × Ref
split_ref nodes x (Terminal b) = (Terminal b, Terminal b)
split_ref nodes x (Place k) = split_node x (Place k) (slice_get nodes k)

-- ref k of a cut
abbrev pub ref_at : List Ref → ℕ → Ref
ref_at cut k = get_or cut k (Terminal false)

-- the first refs of a cut, split by a variable: a node of the level for each, and the codes of the next cut
abbrev pub SplitsFirst : ℕ → List Node → ℕ → List Ref → List Children → List ℕ → Type 0
SplitsFirst done nodes x cut level codes =
    NumbersFirst 0 (λ k. code_of (split_ref nodes x (ref_at cut k)).0)
    (λ k. code_of (split_ref nodes x (ref_at cut k)).1) done level codes

-- a cut, split by a variable
pub record Splits (nodes : List Node) (x : ℕ) (cut : List Ref) (level : List Children) (next : List Ref) : Type 0 where
  pub codes : List ℕ
  pub split : SplitsFirst (length cut) nodes x cut level codes
  pub next_is : next ≡ map ref_named codes

-- the first roots with their numbers, and the codes of the cut above all levels
pub record RootsFirst (done : ℕ) (roots : List Ref) (numbers : List ℕ) (codes : List ℕ) : Type 0 where
  pub many : length numbers ≡ done
  pub few : length codes ≤ done
  pub inside : (k : ℕ) → k < done → slice_index numbers k < length codes
  pub numbered : (k : ℕ) → k < done → slice_index codes (slice_index numbers k) ≡ code_of (ref_at roots k)
  pub once : (j k : ℕ) → j < length codes → k < length codes → slice_index codes j ≡ slice_index codes k → j ≡ k
  pub reached : (j : ℕ) → j < length codes → (k : ℕ) × (k < done) × (slice_index numbers k ≡ j)

-- the roots with their numbers, and the cut above all levels
pub record Numbers (roots : List Ref) (numbers : List ℕ) (cut : List Ref) : Type 0 where
  pub codes : List ℕ
  pub first : RootsFirst (length roots) roots numbers codes
  pub cut_is : cut ≡ map ref_named codes

-- whether a ref is terminal 1
abbrev pub is_true : Ref → Bool
is_true (Terminal b) = b
is_true (Place k) = false

-- levels whose functions are those of a diagram's roots
pub record IsBuilt (order : List ℕ) (nodes : List Node) (roots : List Ref) (numbers : List ℕ)
    (levels : List (List Children))
    (terminals : List Bool) : Type 0 where
  pub leveled : IsLeveled levels terminals order numbers
  pub many : length numbers ≡ length roots
  pub functions_are : (j : ℕ) → j < length roots →
      SameFunction (length order) (function_at levels terminals order (slice_index numbers j))
      (value nodes (ref_at roots j))

-- the levels that are built from a diagram
abbrev pub AreLevelsOf : List ℕ → List Node → List Ref → BuiltLevels → Type 0
AreLevelsOf order nodes roots built = IsBuilt order nodes roots built.roots.items (nodes_of built.levels.items) built.terminals.items
