-- The least sum of cost and width over the members of a set.
--     IsBest n bound mask costs widths sum x      the sum is the least one over the members with a cost within the bound, and x the smallest that gives it
use Rattle.std.specs.Prelude.{◌≡◌, ◌≢◌, ℕ, ◌+◌, ◌<◌, ◌≤◌}

-- sum is the least `costs x + widths x` over the x in S with `costs x` at most the bound, and x is the smallest that gives it
pub record IsBest (S : ℕ → Type 0) (bound : ℕ) (costs widths : ℕ → ℕ) (sum x : ℕ) : Type 0 where
  pub member : S x
  pub within : costs x ≤ bound
  pub sum_is : sum ≡ costs x + widths x
  pub least : (y : ℕ) → S y → costs y ≤ bound → sum ≤ costs y + widths y
  pub smallest : (y : ℕ) → y < x → S y → costs y ≤ bound → costs y + widths y ≢ sum
