-- The place of a number in a list.
use Rattle.std.proofs.Common.{◌≡◌, ℕ, ◌<◌, Bool, true, false, cond, nat_lt, nat_eq, List, get_or, length, Option, Some, None, position, sym, refl, ap, ◌∙◌, inl, inr, arith}
use Rattle.std.specs.List.{IsDistinct}
use Rattle.definitions.specs.Orders.{has, place_in}
use Rattle.definitions.proofs.Lists.Orders.{has_at, place_at, place_get}
use Rattle.std.proofs.lemmas.Bool.{cases_Bool}

abbrev pub found : List ℕ → ℕ → Option ℕ
found xs v = position (λ m. nat_eq v m) xs

found_is : (xs : List ℕ) (v : ℕ) → found xs v ≡ cond (nat_lt (place_in xs v) (length xs)) (Some (place_in xs v)) None
unfolding place_in
found_is xs v = refl

-- what stands at a place of a list without repeats is found there
pub found_at : (xs : List ℕ) (p v : ℕ) → IsDistinct nat_eq xs → p < length xs → get_or xs p 0 ≡ v → found xs v ≡ Some p
found_at xs p v once low is = grind (arith, place_get, found_is)

-- what is not in a list is not found
pub not_found : (xs : List ℕ) (v : ℕ) → has xs v ≡ false → found xs v ≡ None
not_found xs v h = elim (cases_Bool (nat_lt (place_in xs v) (length xs))) [
  | inl t ↦ absurd (differ (has xs v) (ap (has xs) (sym (place_at xs v (low t))) ∙ has_at xs (place_in xs v) (low t)) h)
  | inr e ↦ found_is xs v ∙ ap (λ (b : Bool). cond b (Some (place_in xs v)) None) e
]
  where
    low : nat_lt (place_in xs v) (length xs) ≡ true → place_in xs v < length xs
    low t = grind arith

    differ : (b : Bool) → b ≡ true → b ≡ false → ⊥
    differ true p q = cc
    differ false p q = cc
