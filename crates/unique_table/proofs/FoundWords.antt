-- A word by its place.
use Rattle.std.proofs.Common.{◌≡◌, ℕ, zero, suc, List, [], ◌∷◌, get_or, sym}
use mathlib.Core.Option.{some, some-injective, some-ne-none}
use lib.ListN.{get_elem?}

pub get_or_found : (xs : List ℕ) (i x : ℕ) → get_elem? xs i ≡ some x → get_or xs i 0 ≡ x
get_or_found [] i x e = absurd (some-ne-none x (sym e))
get_or_found (y ∷ ys) zero x e = some-injective y x e
get_or_found (y ∷ ys) (suc i) x e = get_or_found ys i x e
