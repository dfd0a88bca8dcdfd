-- The values of terms at points, which are given by their numbers.
--     literal_at term k x      whether the term's literal of variable x, if it has one, holds at the point with number k
--     literals_at term k a len      whether the term's literals of the variables a to a + len - 1 hold at the point with number k
--     covered terms j k      whether some term of output j is 1 at the point with number k
--     AddsTerm term place before after      a term is added to the words at a place of all tables
--     AreGroupWords terms group words      the words of a group of 32 places of all tables
use Rattle.std.specs.Prelude.{◌≡◌, ℕ, ◌+◌, ◌*◌, ◌<◌, Bool, not, ◌&&◌, ◌||◌, ◌==◌, List, [], get_or, slice_index}
use Rattle.std.specs.Int.{bit_at}
use Rattle.std.specs.List.{list_any, list_all, range_with_len}
use Rattle.definitions.specs.declared.terms.Term.{Term}

-- whether a term's literal of variable x, if it has one, holds at the point with number k
abbrev pub literal_at : Term → ℕ → ℕ → Bool
literal_at term k x = not (bit_at term.care x == 1) || (bit_at k x == bit_at term.value x)

-- whether the term's literals of the variables a to a + len - 1 hold at the point with number k
unfoldable pub literals_at : Term → ℕ → ℕ → ℕ → Bool
literals_at term k a len = list_all (literal_at term k) (range_with_len a len)

-- whether a term belongs to output j, and all its literals hold at the point with number k
abbrev pub covers : Term → ℕ → ℕ → Bool
covers term j k = (bit_at term.outs j == 1) && literals_at term k 0 16

-- whether some term of output j is 1 at the point with number k
unfoldable pub covered : List Term → ℕ → ℕ → Bool
covered terms j k = list_any (λ term. covers term j k) terms

-- a term is added to the words at a place of all tables, output by output: bit b is the value at the word's point b
abbrev pub AddsTerm : Term → ℕ → List ℕ → List ℕ → Type 0
AddsTerm term place before after =
    (o b : ℕ) → o < 16 → b < 64 →
    (bit_at (slice_index after o) b == 1) ≡ ((bit_at (slice_index before o) b == 1) || covers term o (64 * place + b))

-- the words of a group of 32 places of all tables, place by place
abbrev pub AreGroupWords : List Term → ℕ → List (List ℕ) → Type 0
AreGroupWords terms group words =
    (place o b : ℕ) → place < 32 → o < 16 → b < 64 →
    (bit_at (slice_index (get_or words place []) o) b == 1) ≡ covered terms o (64 * (32 * group + place) + b)
