-- Restriction by several variables at once.
--     fixed xs value f      f with each variable of xs fixed to its bit of value
use Rattle.std.specs.Prelude.{ℕ, List, [], ◌∷◌, ◌==◌}
use Rattle.std.specs.Int.{bit_at}
use Rattle.definitions.specs.Functions.{Function, restrict}

-- f with each of the variables fixed to its bit of value
unfoldable pub fixed : List ℕ → ℕ → Function → Function
fixed [] value f = f
fixed (x ∷ xs) value f = fixed xs value (restrict x (bit_at value x == 1) f)
