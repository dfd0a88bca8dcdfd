-- The variables that a function depends on.
--     support n f, dependence n f      the variables that f depends on, as a list, rising, and as a mask
--     joined_mask masks x p      the mask of a pair of classes
--     AreMasks n F T masks      what the classes of a set depend on
use Rattle.std.specs.Prelude.{◌≡◌, ℕ, ◌^◌, List, map, length, reverse, if◌then◌else◌, nat_eq, slice_index, bit_or}
use Rattle.std.specs.Set.{distinct_count}
use Rattle.std.specs.List.{filter}
use Rattle.definitions.specs.Functions.{Function, depends, same_table}
use Rattle.definitions.specs.Levels.{reach}
use Rattle.definitions.specs.Widths.{outside, entries, class_numbers}
use Rattle.definitions.specs.Orders.{variables, mask_of}

-- the variables that f depends on, rising
unfoldable pub support : ℕ → Function → List ℕ
support n f = filter (λ y. depends n f y) (variables n)

-- the variables that f depends on, as a mask: bit y stands for variable y
unfoldable pub dependence : ℕ → Function → ℕ
dependence n f = mask_of (support n f)

-- the mask of a pair of classes: the variables that one of the two classes depends on, and x if the classes differ
abbrev pub joined_mask : List ℕ → ℕ → ℕ × ℕ → ℕ
joined_mask masks x p = bit_or (bit_or (slice_index masks p.0) (slice_index masks p.1)) (if nat_eq p.0 p.1 then 0 else 2 ^ x)

-- one mask for each class over T: the variables that the functions of the class depend on
pub record AreMasks (n : ℕ) (F : List Function) (T : List ℕ) (masks : List ℕ) : Type 0 where
  pub many : length masks ≡ distinct_count same_table (entries n F T)
  pub labels : map (λ c. slice_index masks c) (class_numbers n F T) ≡ map (dependence n) (reach F (reverse (outside n T)))
