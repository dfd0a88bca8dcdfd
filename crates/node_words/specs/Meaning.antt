-- What ids mean.
--     value levels ws id t      the value of an id, where t says for each level whether the high child is taken there
--     depth levels ws id      the level of an id; a terminal lies below all levels
--     function_of order ws id      the function that an id denotes under an order
--     Denotes order ws id f      the id is known, and denotes f
use Rattle.std.specs.Prelude.{◌≡◌, ℕ, zero, suc, ◌-◌, ◌==◌, Bool, nat_lt, if◌then◌else◌, List, length, slice_index}
use Rattle.definitions.specs.Functions.{Point, Function, bit, SameFunction}
use Rattle.node_words.specs.Nodes.{IsKnown, level_of, low_of, high_of}

-- the value of an id, where t says for each level whether the high child is taken there; as many steps as there are levels are enough
abbrev pub value : ℕ → List ℕ → ℕ → (ℕ → Bool) → Bool
value zero ws id t = id == 1
value (suc k) ws id t =
    if nat_lt id 2 then id == 1
    else (if t (level_of (slice_index ws (id - 2))) then value k ws (high_of (slice_index ws (id - 2))) t
    else value k ws (low_of (slice_index ws (id - 2))) t)

-- two ids have equal values, whichever children are taken
abbrev pub IsSame : ℕ → List ℕ → ℕ → ℕ → Type 0
IsSame levels ws a b = (t : ℕ → Bool) → value levels ws a t ≡ value levels ws b t

-- the level of an id: a terminal lies below all levels
abbrev pub depth : ℕ → List ℕ → ℕ → ℕ
depth levels ws id = if nat_lt id 2 then levels else level_of (slice_index ws (id - 2))

-- a point's value of the variable of each level
abbrev pub along : List ℕ → Point → ℕ → Bool
along order p level = bit p (slice_index order level)

-- the function that an id denotes: the high child's if the level's variable is 1, else the low child's
unfoldable pub function_of : List ℕ → List ℕ → ℕ → Function
function_of order ws id p = value (length order) ws id (along order p)

-- the id is known, and denotes the function
pub record Denotes (order ws : List ℕ) (id : ℕ) (f : Function) : Type 0 where
  pub known : IsKnown ws id
  pub function : SameFunction (length order) (function_of order ws id) f

-- g if the variable is 1, else f
unfoldable pub branch : ℕ → Function → Function → Function
branch x f g p = if bit p x then g p else f p
