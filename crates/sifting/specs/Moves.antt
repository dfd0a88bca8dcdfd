-- One variable moved among the others.
--     Moves place other from to      the variable at one place stands at another, and the others keep their order
--     StopsAbove, StopsBelow      why a variable can't go further
--     PassesBetween      why a variable can go back up
--     size_at m others x i      the size with a variable at a place among others
--     FindsBest      where a variable has its uppermost place of least size, of those that it went through
--     WalksDown      the result of moving a variable down as far as the pairs allow
use Rattle.std.specs.Prelude.{◌≡◌, ℕ, ◌+◌, ◌-◌, ◌<◌, ◌≤◌, ◌⊎◌, List, length, map, slice_index, IsTrue, IsFalse, Bool, [], nat_lt}
use Rattle.std.specs.List.{insert, fold, range_with_len}
use Rattle.definitions.specs.Pairs.{Pair, Keeps, has_pair}
use Rattle.definitions.specs.Problems.{functions}
use Rattle.definitions.specs.Sifting.{insert_by_count}
use Rattle.definitions.specs.Levels.{size_under}
use Rattle.definitions.specs.Orders.{variables}
use Rattle.sifting.specs.Managed.{Managed}
use Rattle.sifting.specs.declared.sift.Walk.{Walk}

-- the variable at one place stands at another, and the others keep their order
unfoldable pub Moves : ℕ → ℕ → List ℕ → List ℕ → Type 0
Moves place other from to = (others : List ℕ) (x : ℕ) → place ≤ length others → from ≡ insert others place x →
    to ≡ insert others other x

-- two managers of the same functions and pairs, with the variable at one place moved to another
pub record IsMoved (place other : ℕ) (from to : Managed) : Type 0 where
  pub moves : Moves place other from.order to.order
  pub functions_stay : to.problem ≡ from.problem
  pub pairs_stay : to.pairs ≡ from.pairs
  pub length_stays : length to.order ≡ length from.order

-- the place is the uppermost, or the variable above must stay above
abbrev pub StopsAbove : List Pair → List ℕ → ℕ → Type 0
StopsAbove P order place = (place ≡ 0) ⊎ IsTrue (has_pair P (slice_index order (place - 1)) (slice_index order place))

-- the place is the lowest, or the variable below must stay below
abbrev pub StopsBelow : List Pair → List ℕ → ℕ → Type 0
StopsBelow P order place = (length order ≤ place + 1)
    ⊎ IsTrue (has_pair P (slice_index order place) (slice_index order (place + 1)))

-- the orders with x at the places from one to another
abbrev pub placed_from : List ℕ → ℕ → ℕ → ℕ → List (List ℕ)
placed_from others x from to = map (λ i. insert others i x) (range_with_len from (to + 1 - from))

-- of the variables between two places, none must stay above the one at the lower place
abbrev pub PassesBetween : Managed → ℕ → ℕ → Type 0
PassesBetween m upper lower = (others : List ℕ) (x : ℕ) → lower ≤ length others → m.order ≡ insert others lower x →
    (i : ℕ) → upper ≤ i → i < lower →
    IsFalse (has_pair m.pairs (slice_index others i) x)

-- whether the count of variable y is smaller than `count`
abbrev pub has_fewer : List ℕ → ℕ → ℕ → Bool
has_fewer counts count y = nat_lt (slice_index counts y) count

-- the variables below n by falling count, ties by smaller index
unfoldable pub by_falling_count : List ℕ → ℕ → List ℕ
by_falling_count counts n = fold (λ ys x. insert_by_count (slice_index counts) x ys) [] (variables n)

-- the size with x at a place among others
abbrev pub size_at : Managed → List ℕ → ℕ → ℕ → ℕ
size_at m others x i = size_under m.problem.inputs (functions m.problem) (insert others i x)

-- the variable at a place keeps the pairs at all places from one to another, and has its least size there at the best one and at none above
pub record FindsBest (m : Managed) (place from to best least : ℕ) : Type 0 where
  pub above : from ≤ best
  pub below : best ≤ to
  pub keeps : (others : List ℕ) (x : ℕ) → place ≤ length others → m.order ≡ insert others place x → (i : ℕ) → from ≤ i →
      i ≤ to →
      Keeps m.pairs (insert others i x)
  pub size_is : (others : List ℕ) (x : ℕ) → place ≤ length others → m.order ≡ insert others place x →
      least ≡ size_at m others x best
  pub smallest : (others : List ℕ) (x : ℕ) → place ≤ length others → m.order ≡ insert others place x → (i : ℕ) → from ≤ i →
      i ≤ to →
      least ≤ size_at m others x i
  pub uppermost : (others : List ℕ) (x : ℕ) → place ≤ length others → m.order ≡ insert others place x → (i : ℕ) → from ≤ i →
      i < best →
      least < size_at m others x i

-- the result of moving a variable down as far as the pairs allow
pub record WalksDown (m : Managed) (from : ℕ) (w : Walk) : Type 0 where
  pub moved : IsMoved from w.place m w.manager
  pub within : w.place < length m.order
  pub stops : StopsBelow w.manager.pairs w.manager.order w.place
  pub best : FindsBest m from from w.place w.best.place w.best.size
