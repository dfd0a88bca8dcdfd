-- Numbers by first occurrence.
--     rank eq xs k, ranks eq xs      how many distinct keys stand before the first one equal to k; the numbers of all entries of a list
--     IsFirstOccurrence key j f      f is the first place with the key of place j
use Rattle.std.specs.Prelude.{◌≡◌, ◌≢◌, ◌<◌, ◌≤◌, ℕ, Bool, not, List, map}
use Rattle.std.specs.List.{take_while}
use Rattle.std.specs.Set.{distinct_count}

-- the number of distinct keys before the first one equal to k
unfoldable pub rank : {K : Type 0} → (K → K → Bool) → List K → K → ℕ
rank eq xs k = distinct_count eq (take_while (λ u. not (eq k u)) xs)

-- the number of each entry
unfoldable pub ranks : {K : Type 0} → (K → K → Bool) → List K → List ℕ
ranks eq xs = map (rank eq xs) xs

-- f is the first place with the key of place j
pub record IsFirstOccurrence (key : ℕ → ℕ × ℕ) (j f : ℕ) : Type 0 where
  pub before : f ≤ j
  pub same : key f ≡ key j
  pub none : (i : ℕ) → i < f → key i ≢ key j
