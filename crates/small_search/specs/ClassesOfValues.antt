-- Class tables from values.
--     NumbersValues S vs x numbers masks      the numbers of pairs of values, paired at rank x, by first occurrence; and in `masks` which of
--                                             the four variables of S a joined pair with each number depends on
use Rattle.std.specs.Prelude.{◌≡◌, ℕ, ◌+◌, ◌*◌, ◌^◌, List, length, map, slice_index}
use Rattle.std.specs.Set.{distinct_count}
use Rattle.definitions.specs.Widths.{same_pair}
use Rattle.subfunction_classes.specs.Numbering.{ranks}
use Rattle.subfunction_classes.specs.Places.{pairs}
use Rattle.small_search.specs.Values.{mask_over}

pub record NumbersValues (S vs : List ℕ) (x : ℕ) (numbers masks : List ℕ) : Type 0 where
  pub numbers_are : numbers ≡ ranks same_pair (pairs vs (2 ^ x))
  pub many : length masks ≡ distinct_count same_pair (pairs vs (2 ^ x))
  pub labels : map (λ c. slice_index masks c) numbers ≡ map (λ p. mask_over S (p.0 + p.1 * 256)) (pairs vs (2 ^ x))
