-- The bound of all nodes is about half of a store's places.
use Rattle.std.proofs.Common.{◌≡◌, ℕ, zero, suc, ◌<◌, ◌≤◌, true, Bool, nat_lt, ◌&&◌, refl, subst, arith, ⊎_elim, le-ltb}
use Rattle.std.proofs.lemmas.Bool.{cases_lt, and_parts}
use Rattle.dd_builder.specs.Subfunctions.{most_nodes, MostNodesFit}
use Rattle.dd_builder.proofs.LevelBounds.{more_above}

-- with 16 outputs
abbrev fits : ℕ → Bool
fits n = nat_lt (most_nodes n 16) 131311

abbrev all_fit : ℕ → Bool
all_fit zero = fits 0
all_fit (suc n) = fits (suc n) && all_fit n

each_fits : (most n : ℕ) → n ≤ most → all_fit most ≡ true → fits n ≡ true
each_fits zero n low e = grind (arith, fits)
each_fits (suc most) n low e = ⊎_elim
    (λ (less : n < suc most). each_fits most n (omega (arith, less)) (and_parts (fits (suc most)) (all_fit most) e).1)
    (λ (more : suc most ≤ n). subst (λ z. fits z ≡ true) (let s : suc most ≡ n = omega (arith, low, more) in s)
    (and_parts (fits (suc most)) (all_fit most) e).0)
    (cases_lt n (suc most))

below : (a b : ℕ) → nat_lt a b ≡ true → a < b
below a b e = grind (arith, ⊎_elim, le-ltb, cases_lt)

pub most_fit : MostNodesFit
most_fit n m few few' = omega (arith, more_above n m n few', below (most_nodes n 16) 131311 (each_fits 16 n few refl))
