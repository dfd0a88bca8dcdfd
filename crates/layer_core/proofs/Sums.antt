-- Sums over the elements of a list, of which one is replaced.
use Rattle.std.proofs.Common.{◌≡◌, ◌≢◌, ℕ, zero, suc, ◌+◌, ◌≤◌, List, [], ◌∷◌, set, sym, refl, ap, arith}
use mathlib.Core.Option.{some, some-injective, some-ne-none}
use lib.ListN.{get_elem?}
use Rattle.layer_core.specs.Rights.{total}

module _ {A : Type 0} (f : A → ℕ) where
  -- one element is replaced
  pub sum_at : (l : List A) (i : ℕ) (v w : A) → get_elem? l i ≡ some v → total f (set l i w) + f v ≡ total f l + f w
  sum_at [] i v w e = absurd (some-ne-none v (sym e))
  sum_at (x ∷ xs) zero v w e = omega (arith, ap f (some-injective x v e))
  sum_at (x ∷ xs) (suc i) v w e = omega (arith, sum_at xs i v w e)

  pub sum_one : (l : List A) (i : ℕ) (v : A) → get_elem? l i ≡ some v → f v ≤ total f l
  sum_one [] i v e = absurd (some-ne-none v (sym e))
  sum_one (x ∷ xs) zero v e = omega (arith, ap f (some-injective x v e))
  sum_one (x ∷ xs) (suc i) v e = omega (arith, sum_one xs i v e)

  -- two different elements
  pub sum_two : (l : List A) (i j : ℕ) (v w : A) → i ≢ j → get_elem? l i ≡ some v → get_elem? l j ≡ some w → f v + f w ≤ total f l
  sum_two [] i j v w n e d = absurd (some-ne-none v (sym e))
  sum_two (x ∷ xs) zero zero v w n e d = absurd (n refl)
  sum_two (x ∷ xs) zero (suc j) v w n e d = omega (arith, ap f (some-injective x v e), sum_one xs j w d)
  sum_two (x ∷ xs) (suc i) zero v w n e d = omega (arith, ap f (some-injective x w d), sum_one xs i v e)
  sum_two (x ∷ xs) (suc i) (suc j) v w n e d = omega (arith, sum_two xs i j v w (λ h. n (ap suc h)) e d)
