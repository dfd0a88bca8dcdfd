-- Texts of pairs, as 2,0:1,0, and what is decided of them.
--     variable_of word, pair_of part, listed text      the variable of a word, the pair of a part between colons, the pairs of a text
--     AreMasksOf P below      the masks of the listed pairs
--     ParsesAs P n result      what is returned for the listed pairs, with n variables
use Rattle.std.specs.Prelude.{◌≡◌, ◌↔◌, IsTrue, ℕ, ◌==◌, List, [], ◌∷◌, Option, Some, None, Result, Ok, Err, decimal}
use Rattle.std.specs.List.{find, slice_split, before_first, after_first}
use Rattle.definitions.specs.declared.faults.PairsFault.{PairsFault}
use Rattle.definitions.specs.declared.faults.PairsFault.TheVariants.{BadPair, PairOutOfRange, PairCycle}
use Rattle.definitions.specs.Orders.{variables}
use Rattle.definitions.specs.Texts.{same}
use Rattle.definitions.specs.Pairs.{Pair, has_pair, AreBelow, IsPairCycle, sorted_pairs}
use Rattle.definitions.specs.KeptPairs.{KeptPairs, HasBit, HasNoCycle}

-- the variable of a word: the one from 0 to 15 whose decimal it is
unfoldable pub variable_of : List ℕ → Option ℕ
variable_of word = find (λ k. same word (decimal k)) (variables 16)

-- the pair of two numbers, if there are both
abbrev pub both : Option ℕ → Option ℕ → Option Pair
both (Some a) (Some b) = Some (a, b)
both _ _ = None

-- the pair of a part: the numbers before and after its first comma
abbrev pub pair_of : List ℕ → Option Pair
pair_of part = both (variable_of (before_first (λ b. b == 44) part)) (variable_of (after_first (λ b. b == 44) part))

-- a list of pairs with one more pair in front, if there are both
abbrev pub with_pair : Option Pair → Option (List Pair) → Option (List Pair)
with_pair (Some p) (Some P) = Some (p ∷ P)
with_pair _ _ = None

-- the pairs of the parts, if each has one
unfoldable pub pairs_of : List (List ℕ) → Option (List Pair)
pairs_of [] = Some []
pairs_of (part ∷ parts) = with_pair (pair_of part) (pairs_of parts)

-- the pairs that a text lists, one in each part between its colons
abbrev pub listed : List ℕ → Option (List Pair)
listed text = pairs_of (slice_split (λ b. b == 58) text)

-- the masks of the listed pairs: bit b of mask a stands for (a, b)
abbrev pub AreMasksOf : Option (List Pair) → Option (List ℕ) → Type 0
AreMasksOf None None = Unit {0}
AreMasksOf (Some P) (Some below) = (a b : ℕ) → IsTrue (has_pair P a b) ↔ HasBit below a b
AreMasksOf _ _ = ⊥

-- what is returned for the listed pairs, with n variables: the first fault of the whole list, or the pairs, sorted
abbrev pub ParsesAs : Option (List Pair) → ℕ → Result KeptPairs PairsFault → Type 0
ParsesAs None n (Err BadPair) = Unit {0}
ParsesAs (Some P) n (Err PairOutOfRange) = AreBelow n P → ⊥
ParsesAs (Some P) n (Err (PairCycle v)) = AreBelow n P × IsPairCycle P v
ParsesAs (Some P) n (Ok kept) = AreBelow n P × HasNoCycle P × (kept ≡ record { inputs = n; pairs = sorted_pairs n P })
ParsesAs _ _ _ = ⊥
