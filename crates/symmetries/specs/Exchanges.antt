-- Variables exchanged in pairs, and functions that are symmetric in them.
--     IsExchange n partners      each variable has a partner, whose partner it is; a variable may be its own
--     exchanged n partners p      the point at which each variable has the value that its partner has at p
--     AreSymmetric n F partners      each function has equal values at each point and at that point with exchanged variables
use Rattle.std.specs.Prelude.{◌≡◌, ℕ, ◌<◌, List, map, length, slice_index}
use Rattle.std.specs.List.{All, range_with_len}
use Rattle.definitions.specs.Functions.{Point, Function, bit, SameFunction}

-- each variable has a partner, whose partner it is
pub record IsExchange (n : ℕ) (partners : List ℕ) : Type 0 where
  pub long : length partners ≡ n
  pub inside : (x : ℕ) → x < n → slice_index partners x < n
  pub back : (x : ℕ) → x < n → slice_index partners (slice_index partners x) ≡ x

-- the point at which each variable has the value that its partner has at p
abbrev pub exchanged : ℕ → List ℕ → Point → Point
exchanged n partners p = map (λ y. bit p (slice_index partners y)) (range_with_len 0 n)

-- each function has equal values at each point and at that point with exchanged variables
abbrev pub AreSymmetric : ℕ → List Function → List ℕ → Type 0
AreSymmetric n F partners = All (λ f. SameFunction n f (λ p. f (exchanged n partners p))) F
