-- The distinct subfunctions over a set.
--     AreOf t s      s has the distinct subfunctions over the set of t: the values that occur, if it has up to three variables, or what each
--                    of up to 2^20 classes depends on
--     CanBeCounted s place      if s has values `place` is below 3; if it has classes they are at most 2^20
--     IsAtPlace t x place      x is a member of the set of t, and `place` is the number of greater members
use Rattle.std.specs.Prelude.{◌≡◌, ℕ, ◌+◌, ◌^◌, ◌<◌, ◌≤◌, IsTrue, count_ones, length}
use Rattle.definitions.specs.Orders.{has, members}
use Rattle.definitions.specs.Problems.{functions}
use Rattle.subfunction_classes.specs.Dependence.{AreMasks}
use Rattle.subfunction_classes.specs.Table.{ClassesOf, set_of}
use Rattle.small_search.specs.Counting.{AreOccurring}
use Rattle.small_search.specs.Values.{set_values}
use Rattle.small_search.specs.declared.width_counts.Subfunctions.{Subfunctions}
use Rattle.small_search.specs.declared.width_counts.Subfunctions.TheVariants.{Values, Classes}

abbrev pub AreOf : ClassesOf → Subfunctions → Type 0
AreOf t (Values occurring) = (count_ones t.set ≤ 3) × AreOccurring (set_values t.problem t.set) occurring
AreOf t (Classes masks) = AreMasks t.problem.inputs (functions t.problem) (set_of t) masks.now × (length masks.now ≤ 2 ^ 20)

abbrev pub CanBeCounted : Subfunctions → ℕ → Type 0
CanBeCounted (Values occurring) place = place < 3
CanBeCounted (Classes masks) place = length masks.now ≤ 2 ^ 20

pub record IsAtPlace (t : ClassesOf) (x place : ℕ) : Type 0 where
  pub inside : x < t.problem.inputs
  pub within : t.set < 2 ^ t.problem.inputs
  pub member : IsTrue (has (set_of t) x)
  pub above : length (members x t.set) + 1 + place ≡ length (set_of t)
