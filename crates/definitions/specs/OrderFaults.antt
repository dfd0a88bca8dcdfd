-- Which lists of variables are orders, and what is wrong with the others.
--     Accepts xs      xs has 1 to 16 variables, and is an order of as many
--     IsInRange xs      xs has 1 to 16 variables, each below its length
--     IsNoOrder xs fault      why xs is no order
use Rattle.std.specs.Prelude.{ℕ, ◌<◌, ◌≤◌, List, length}
use Rattle.std.specs.List.{All}
use Rattle.definitions.specs.declared.faults.BadOrder.{BadOrder}
use Rattle.definitions.specs.declared.faults.BadOrder.TheVariants.{NotEach, OutOfRange, OutOfMemory}
use Rattle.definitions.specs.Orders.{IsOrder}

-- an order of 1 to 16 variables
pub record Accepts (xs : List ℕ) : Type 0 where
  pub some : 1 ≤ length xs
  pub few : length xs ≤ 16
  pub order : IsOrder (length xs) xs

-- a list of 1 to 16 variables, each below its length
pub record IsInRange (xs : List ℕ) : Type 0 where
  pub some : 1 ≤ length xs
  pub few : length xs ≤ 16
  pub below : All (λ x. x < length xs) xs

-- why a list is no order: being out of range comes first
abbrev pub IsNoOrder : List ℕ → BadOrder → Type 0
IsNoOrder xs OutOfRange = IsInRange xs → ⊥
IsNoOrder xs NotEach = IsInRange xs × (IsOrder (length xs) xs → ⊥)
IsNoOrder xs OutOfMemory = Unit {0}
