-- The least sum of cost and width, over the members below a variable.
--     IsBestBelow      the best sum so far; best_skipped, best_taken      one variable more
--     best_gap, best_all      no members from a variable on; all variables
use Rattle.std.proofs.Common.{◌≡◌, ℕ, ◌+◌, ◌<◌, ◌≤◌, inl, inr, Option, Some, None, IfSome, arith}
use Rattle.std.proofs.lemmas.Bool.{cases_lt}
use Rattle.subset_layers.specs.declared.recurrence.Sum.{Sum}
use Rattle.subset_layers.specs.Sums.{IsBest}

module _ (S : ℕ → Type 0) (bound : ℕ) (costs widths : ℕ → ℕ) where
  -- the best sum over the members below k
  abbrev pub IsBestBelow : ℕ → Option Sum → Type 0
  IsBestBelow k None = (y : ℕ) → y < k → S y → bound < costs y
  IsBestBelow k (Some s) = IsBest (λ y. (y < k) × S y) bound costs widths s.sum s.variable

  -- a variable that is no member, or whose cost is beyond the bound
  pub best_skipped : (k : ℕ) (o : Option Sum) → IsBestBelow k o → (S k → bound < costs k) → IsBestBelow (k + 1) o
  best_skipped k o h l = grind (arith, cases_lt)

  -- a member within the bound
  pub best_taken : (k sum : ℕ) (o : Option Sum) (next r : Sum) → IsBestBelow k o → S k → costs k ≤ bound → sum ≡ costs k + widths k →
      next ≡ record { sum = sum; variable = k } →
      (o ≡ None → r ≡ next) → IfSome o (λ b. (b.sum ≤ next.sum → r ≡ b) × (next.sum < b.sum → r ≡ next)) → IsBestBelow (k + 1) (Some r)
  best_taken k sum o next r h l m e p q s = grind (arith, cases_lt)

  -- no members from a variable on
  pub best_gap : (k m : ℕ) (o : Option Sum) → k ≤ m → ((y : ℕ) → k ≤ y → y < m → S y → ⊥) → IsBestBelow k o → IsBestBelow m o
  best_gap k m None le none h = λ y lt s. elim (cases_lt y k) [ inl l ↦ h y l s | inr g ↦ absurd (none y g lt s) ]
  best_gap k m (Some s) le none h = grind (arith, cases_lt)

  -- all members
  pub best_all : (k : ℕ) (s : Sum) → ((y : ℕ) → S y → y < k) → IsBest (λ y. (y < k) × S y) bound costs widths s.sum s.variable →
      IsBest S bound costs widths s.sum s.variable
  best_all k s low h = grind arith
