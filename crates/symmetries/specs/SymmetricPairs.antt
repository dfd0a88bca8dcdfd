-- Pairs of variables that may be exchanged without a change of any function.
--     exchange_of n a b      the partners of n variables, of which a and b are exchanged
--     IsSymmetricPair n F a b      a is the smaller of two variables in which all functions are symmetric
--     AreSymmetricPairs n F P      each pair of P is a symmetric pair
--     IsHarmless n F P Q      the first order of the fewest nodes among those that keep Q is also the one among those that keep P
use Rattle.std.specs.Prelude.{◌≡◌, ◌≢◌, ℕ, ◌<◌, if◌then◌else◌, List, map, nat_eq, IsTrue}
use Rattle.std.specs.List.{range_with_len}
use Rattle.std.specs.Ordering.{nat_cmp}
use Rattle.std.specs.Cmp.Lexicographic.{slice_cmp}
use Rattle.std.specs.declared.cmp.Ordering.TheVariants.{Greater}
use Rattle.definitions.specs.Functions.{Function}
use Rattle.definitions.specs.Levels.{size_under}
use Rattle.definitions.specs.Orders.{IsOrder}
use Rattle.definitions.specs.Pairs.{Pair, Keeps, has_pair}
use Rattle.symmetries.specs.Exchanges.{AreSymmetric}

-- the partners of n variables, of which two are exchanged
unfoldable pub exchange_of : ℕ → ℕ → ℕ → List ℕ
exchange_of n a b = map (λ y. if nat_eq y a then b else if nat_eq y b then a else y) (range_with_len 0 n)

-- a is the smaller of two variables in which all functions are symmetric
pub record IsSymmetricPair (n : ℕ) (F : List Function) (a b : ℕ) : Type 0 where
  pub first : a < b
  pub inside : b < n
  pub symmetric : AreSymmetric n F (exchange_of n a b)

-- each pair of P is a symmetric pair
abbrev pub AreSymmetricPairs : ℕ → List Function → List Pair → Type 0
AreSymmetricPairs n F P = (a b : ℕ) → IsTrue (has_pair P a b) → IsSymmetricPair n F a b

-- each order that keeps Q keeps P, and each order that keeps P can be sorted into one that keeps Q, has as many nodes, and does not come later
pub record IsHarmless (n : ℕ) (F : List Function) (P Q : List Pair) : Type 0 where
  pub more : (order : List ℕ) → IsOrder n order → Keeps Q order → Keeps P order
  pub sorted : (order : List ℕ) → IsOrder n order → Keeps P order →
      (o : List ℕ) × IsOrder n o × Keeps Q o × (size_under n F o ≡ size_under n F order) × (slice_cmp nat_cmp o order ≢ Greater)
