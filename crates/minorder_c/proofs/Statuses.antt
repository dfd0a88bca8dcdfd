-- The numbers of calls.
--     other      two numbers that differ aren't equal
--     shape_given      a call whose arguments have their shape doesn't end with 2
use Rattle.std.proofs.Common.{◌≡◌, ℕ, false, subst}
use Rattle.std.proofs.Math.Dec.{T, eqb}
use Rattle.std.proofs.Math.Facts.{yes_eqb}
use Rattle.minorder_c.specs.Statuses.{ShowsShape}

pub other : {P : Type 0} (s t : ℕ) → eqb s t ≡ false → s ≡ t → P
other s t differ e = absurd (subst T differ (yes_eqb e))

pub shape_given : {shape : Type 0} (s : ℕ) → eqb s 2 ≡ false → shape → ShowsShape shape s
shape_given s differ it = (λ e. other s 2 differ e, λ no. absurd (no it))
