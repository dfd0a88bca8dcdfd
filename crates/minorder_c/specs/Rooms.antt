-- Lists that are written where there is room for them.
--     Holds Is place place' size      the front of a place holds a list, of this size, and the rest stays
--     IsShort Is place size      a list has this size, which is larger than the place
use Rattle.std.specs.Prelude.{◌≡◌, ℕ, ◌<◌, ◌++◌, List, drop, length}

-- the front of a place holds a list, of this size, and the rest stays
pub record Holds {A : Type 0} (Is : List A → Type 0) (place place' : List A) (size : ℕ) : Type 0 where
  pub items : List A
  pub is : Is items
  pub long : length items ≡ size
  pub front : place' ≡ items ++ drop size place

-- a list has this size, which is larger than the place
pub record IsShort {A : Type 0} (Is : List A → Type 0) (place : List A) (size : ℕ) : Type 0 where
  pub items : List A
  pub is : Is items
  pub long : length items ≡ size
  pub longer : length place < size
