-- Sifting (Rudell 1993): each variable once goes to its uppermost place of least size that keeps the pairs.
--     moved order x i, placements order x      the order with x put at place i, and at each place
--     best n F P order x      the order with x at the uppermost place of least size that keeps the pairs
--     IsBestPlace n F P order x i      i is the uppermost place of least size for x that keeps the pairs
--     sifting_order n F order      the variables by falling level count, ties by smaller index
--     IsSiftingOrder n F order xs      xs has the variables by falling level count, ties by smaller index
--     sifted n F P order      best applied to each variable once
use Rattle.std.specs.Prelude.{◌≡◌, ℕ, ◌<◌, ◌≤◌, if◌then◌else◌, List, [], ◌∷◌, length, map, nat_lt}
use Rattle.std.specs.List.{filter, fold, insert, range_with_len}
use Rattle.definitions.specs.Functions.{Function}
use Rattle.definitions.specs.Orders.{IsOrder, place_in, variables, without}
use Rattle.definitions.specs.Pairs.{Pair, keeps, Keeps}
use Rattle.definitions.specs.Levels.{level_count, size_under}

-- the order with x taken out and put at place i
abbrev pub moved : List ℕ → ℕ → ℕ → List ℕ
moved order x i = insert (without x order) i x

-- the order with x taken out and put at each place, uppermost first
unfoldable pub placements : List ℕ → ℕ → List (List ℕ)
placements order x = map (λ i. moved order x i) (range_with_len 0 (length order))

-- of a first order and others, the first one that has the least size
unfoldable pub smallest_order : ℕ → List Function → List ℕ → List (List ℕ) → List ℕ
smallest_order n F first others = fold (λ a b. if nat_lt (size_under n F b) (size_under n F a) then b else a) first others

-- the first order of least size in a list, or the given order if the list is empty
unfoldable pub smallest_of : ℕ → List Function → List ℕ → List (List ℕ) → List ℕ
smallest_of n F order [] = order
smallest_of n F order (first ∷ others) = smallest_order n F first others

-- the order with x at the uppermost place of least size, among the places that keep the pairs
unfoldable pub best : ℕ → List Function → List Pair → List ℕ → ℕ → List ℕ
best n F P order x = smallest_of n F order (filter (keeps P) (placements order x))

-- place i is the best for x: of the places at which the order keeps the pairs, none gives a smaller size, and each above it a larger one
pub record IsBestPlace (n : ℕ) (F : List Function) (P : List Pair) (order : List ℕ) (x i : ℕ) : Type 0 where
  pub within : i < length order
  pub kept : Keeps P (moved order x i)
  pub least : (j : ℕ) → j < length order → Keeps P (moved order x j) →
      size_under n F (moved order x i) ≤ size_under n F (moved order x j)
  pub uppermost : (j : ℕ) → j < i → Keeps P (moved order x j) →
      size_under n F (moved order x i) < size_under n F (moved order x j)

-- the level count of variable x
abbrev pub count_at : ℕ → List Function → List ℕ → ℕ → ℕ
count_at n F order x = level_count n F order (place_in order x)

-- inserts x into a list by falling count, after the variables of equal count
unfoldable pub insert_by_count : (ℕ → ℕ) → ℕ → List ℕ → List ℕ
insert_by_count count x [] = x ∷ []
insert_by_count count x (y ∷ ys) =
    if nat_lt (count y) (count x) then x ∷ y ∷ ys
    else y ∷ insert_by_count count x ys

-- the variables by falling level count, ties by smaller index
unfoldable pub sifting_order : ℕ → List Function → List ℕ → List ℕ
sifting_order n F order = fold (λ ys x. insert_by_count (count_at n F order) x ys) [] (variables n)

-- xs has each variable once, those of larger count in front, and the smaller variable in front if the counts are equal
pub record IsSiftingOrder (n : ℕ) (F : List Function) (order xs : List ℕ) : Type 0 where
  pub each : IsOrder n xs
  pub falling : (a b : ℕ) → a < n → b < n → count_at n F order b < count_at n F order a → place_in xs a < place_in xs b
  pub ties : (a b : ℕ) → a < b → b < n → count_at n F order a ≡ count_at n F order b → place_in xs a < place_in xs b

-- the order after each variable once was put at its best place
unfoldable pub sifted : ℕ → List Function → List Pair → List ℕ → List ℕ
sifted n F P order = fold (best n F P) order (sifting_order n F order)
