-- Lists made by functions.
--     map_flat_map      one function after another
--     map_ranges      two functions that agree on two ranges of numbers
--     place_of      where an element stands
use Rattle.std.proofs.Common.{◌≡◌, ℕ, zero, suc, ◌+◌, ◌<◌, inl, inr, List, [], ◌∷◌, ◌++◌, map, length, get_or, refl, sym, ap, ◌∙◌, arith}
use Rattle.std.specs.List.{flat_map, range_with_len}
use Rattle.std.proofs.lemmas.List.{map-append}
use Rattle.definitions.proofs.Lists.Sets.{Among}

pub map_flat_map : {X Y Z : Type 0} (g : Y → Z) (f : X → List Y) (xs : List X) → map g (flat_map f xs) ≡ flat_map (λ x. map g (f x)) xs
map_flat_map g f [] = refl
map_flat_map g f (x ∷ xs) = map-append g (f x) (flat_map f xs) ∙ ap (λ zs. map g (f x) ++ zs) (map_flat_map g f xs)

pub map_ranges : {X : Type 0} (f g : ℕ → X) (m a b : ℕ) → ((i : ℕ) → i < m → f (a + i) ≡ g (b + i)) → map f (range_with_len a m) ≡ map g (range_with_len b m)
map_ranges f g zero a b h = refl
map_ranges f g (suc m) a b h =
    λ i. (ap f (let s : a ≡ a + 0 = omega arith in s) ∙ h 0 (omega arith) ∙ ap g (let s : b + 0 ≡ b = omega arith in s)) i
    ∷ map_ranges f g m (a + 1) (b + 1)
    (λ k lt. ap f (let s : a + 1 + k ≡ a + (k + 1) = omega arith in s) ∙ h (k + 1) (omega arith)
    ∙ ap g (let s : b + (k + 1) ≡ b + 1 + k = omega arith in s)) i

pub place_of : {X : Type 0} (none : X) (xs : List X) (x : X) → Among x xs → (i : ℕ) × ((i < length xs) × (get_or xs i none ≡ x))
place_of none [] x h = absurd h
place_of none (y ∷ ys) x h = elim h [
  | inl e ↦ (0, (omega arith, sym e))
  | inr a ↦ let s = place_of none ys x a in (suc s.0, (omega arith, s.1.1))
]
