-- How many pairs have each class as the lower one.
--     AreLone ps counts      a lower class that is counted once is that of one pair alone
--     Counted ps counts j      the count has come to pair j
use Rattle.std.specs.Prelude.{◌≡◌, ◌≢◌, ◌<◌, ℕ, List, length, get_or}

-- a lower class that is counted once is that of one pair alone
abbrev pub AreLone : List (ℕ × ℕ) → List ℕ → Type 0
AreLone ps counts = (i k : ℕ) → i < k → k < length ps → get_or counts (get_or ps i (0, 0)).0 0 ≡ 1 →
    (get_or ps i (0, 0)).0 ≢ (get_or ps k (0, 0)).0

-- the lower classes of the first j pairs are counted
pub record Counted (ps : List (ℕ × ℕ)) (counts : List ℕ) (j : ℕ) : Type 0 where
  pub met : (i : ℕ) → i < j → get_or counts (get_or ps i (0, 0)).0 0 ≢ 0
  pub lone : (i k : ℕ) → i < k → k < j → get_or counts (get_or ps i (0, 0)).0 0 ≡ 1 → (get_or ps i (0, 0)).0 ≢ (get_or ps k (0, 0)).0
