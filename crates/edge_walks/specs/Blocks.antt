-- Blocks of sets: those that differ from one set in variables below a bound alone.
--     IsBlock n set y      the set has no variable below y, and all these sets have variables below n
--     StandsAt P y t      a class table of P by which a walk can go on over the block of its set
--     table_or o t, IsPartTable root part x t      the table in o, or t if o has none; a table of the variables of `part` from x on
use Rattle.std.specs.Prelude.{◌≡◌, ℕ, ◌≤◌, ◌+◌, ◌*◌, ◌/◌, ◌%◌, ◌^◌, Option, Some, None}
use Rattle.definitions.specs.Problems.{TruthTables}
use Rattle.edge_walks.specs.Tables.{TableOf}

-- no variable below y is in the set, and the 2 ^ y sets from it on have variables below n
pub record IsBlock (n set y : ℕ) : Type 0 where
  pub aligned : set % 2 ^ y ≡ 0
  pub room : set + 2 ^ y ≤ 2 ^ n

-- a class table of P from which a walk can go on over the block of its set
pub record StandsAt (P : TruthTables) (y : ℕ) (t : TableOf) : Type 0 where
  pub problem : t.problem ≡ P
  pub inside : y ≤ P.inputs
  pub level : y ≤ t.level
  pub block : IsBlock P.inputs t.set y

-- the table in o, or t if o has none
abbrev pub table_or : Option TableOf → TableOf → TableOf
table_or None t = t
table_or (Some u) t = u

-- a table of the variables of a mask from x on, of the same functions as another
pub record IsPartTable (root : TableOf) (part x : ℕ) (t : TableOf) : Type 0 where
  pub problem : t.problem ≡ root.problem
  pub set : t.set ≡ part / 2 ^ x * 2 ^ x
  pub level : x ≤ t.level
