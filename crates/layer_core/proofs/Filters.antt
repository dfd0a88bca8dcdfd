-- Filters of lists, and sums over them.
--     filter_none      a test that nothing passes
--     sum_map      a sum over the images of a list
--     sum_few      a sum of few over a filtered list
use Rattle.std.proofs.Common.{◌≡◌, ℕ, ◌+◌, ◌*◌, ◌≤◌, Bool, false, cond, List, [], ◌∷◌, map, length, refl, sym, ap₂, ◌∙◌, arith}
use Rattle.std.specs.List.{filter, sum_by}
use Rattle.std.proofs.lemmas.List.Sums.{sum_by-cons}

pub filter_none : {X : Type 0} (p : X → Bool) (xs : List X) → ((x : X) → p x ≡ false) → filter p xs ≡ []
filter_none p [] h = refl
filter_none p (x ∷ xs) h = ap₂ (λ b ys. cond b (x ∷ ys) ys) (h x) (filter_none p xs h)

pub sum_map : {X Y : Type 0} (g : Y → ℕ) (f : X → Y) (h : X → ℕ) (xs : List X) → ((x : X) → g (f x) ≡ h x) → sum_by g (map f xs) ≡ sum_by h xs
sum_map g f h [] e = refl
sum_map g f h (x ∷ xs) e = sum_by-cons g (f x) (map f xs) ∙ ap₂ (λ a b. a + b) (e x) (sum_map g f h xs e) ∙ sym (sum_by-cons h x xs)

pub sum_few : (f : ℕ → ℕ) (p : ℕ → Bool) (xs : List ℕ) → ((x : ℕ) → f x ≤ 16) → sum_by f (filter p xs) ≤ 16 * length xs
sum_few f p [] h = omega arith
sum_few f p (x ∷ xs) h = grind (arith, sum_by-cons, sum_few f p xs h)
