-- Widths of sets of variables and least costs (Friedman and Supowit 1990), and class numbers.
--     width n F T x      how many distinct functions, got by fixing all variables outside T and x, depend on x
--     cost n F xs, least n F P S      a sum of widths, top first; the least such sum over the lists of S's members that keep to lawful sets
--     least_with_top n F P S x      the least cost of S with x on top
--     essential n F, essential_mask n F, essentials_outside n F S      the variables on which some function depends; their mask; how many of them are not in S
--     class_numbers n F T      the number of each subfunction over T, by first occurrence
use Rattle.std.specs.Prelude.{ℕ, zero, suc, ◌+◌, min, Bool, true, false, not, ◌&&◌, List, [], ◌∷◌, length, map, reverse, nat_eq}
use Rattle.std.specs.List.{flat_map, filter, fold, take_while, list_any}
use Rattle.std.specs.Set.{distinct_count}
use Rattle.definitions.specs.Functions.{Function, restrict, table, same_table, depends}
use Rattle.definitions.specs.Orders.{has, variables, without, mask_of}
use Rattle.definitions.specs.Pairs.{Pair, are_lawful}
use Rattle.definitions.specs.Levels.{reach, dependents}

-- the variables that are not in T, rising
unfoldable pub outside : ℕ → List ℕ → List ℕ
outside n T = filter (λ y. not (has T y)) (variables n)

-- the width of x over T: how many distinct functions, got from F by fixing all variables outside T and x in any way, depend on x
unfoldable pub width : ℕ → List Function → List ℕ → ℕ → ℕ
width n F T x = dependents n (reach F (outside n (x ∷ T))) x

-- the cost of a list of variables, top first: the sum of the widths, each over the set of those below it
unfoldable pub cost : ℕ → List Function → List ℕ → ℕ
cost n F [] = 0
cost n F (x ∷ below) = width n F below x + cost n F below

-- the lists of k members of S, each once: the first one is any of them, and after it comes such a list of the others
unfoldable pub arrangements : ℕ → List ℕ → List (List ℕ)
arrangements zero S = [] ∷ []
arrangements (suc k) S = flat_map (λ x. map (λ xs. x ∷ xs) (arrangements k (without x S))) S

-- the least of some numbers, or 0 if there are none
unfoldable pub least_of : List ℕ → ℕ
least_of [] = 0
least_of (c ∷ cs) = fold min c cs

-- the least cost of a lawful S: over the lists of its members, each once, whose bottom parts are all lawful
unfoldable pub least : ℕ → List Function → List Pair → List ℕ → ℕ
least n F P S = least_of (map (cost n F) (filter (are_lawful P) (arrangements (length S) S)))

-- the least cost of S with x on top
abbrev pub least_with_top : ℕ → List Function → List Pair → List ℕ → ℕ → ℕ
least_with_top n F P S x = least n F P (without x S) + width n F (without x S) x

-- the essential variables, rising: those on which some function of F depends
unfoldable pub essential : ℕ → List Function → List ℕ
essential n F = filter (λ x. list_any (λ f. depends n f x) F) (variables n)

-- the mask of the essential variables
unfoldable pub essential_mask : ℕ → List Function → ℕ
essential_mask n F = mask_of (essential n F)

-- how many essential variables are not in S
unfoldable pub essentials_outside : ℕ → List Function → List ℕ → ℕ
essentials_outside n F S = length (filter (λ x. not (has S x)) (essential n F))

-- the truth tables of the subfunctions over T, outputs in order, assignments of the other variables rising (the lowest variable is the lowest bit)
unfoldable pub entries : ℕ → List Function → List ℕ → List (List Bool)
entries n F T = map (table n) (reach F (reverse (outside n T)))

-- the class of an entry: the number of distinct entries before the first one equal to it
unfoldable pub class_of : List (List Bool) → List Bool → ℕ
class_of ts t = distinct_count same_table (take_while (λ u. not (same_table t u)) ts)

-- the class numbers of the subfunctions over T
unfoldable pub class_numbers : ℕ → List Function → List ℕ → List ℕ
class_numbers n F T = map (class_of (entries n F T)) (entries n F T)

-- whether two pairs of numbers are equal
abbrev pub same_pair : ℕ × ℕ → ℕ × ℕ → Bool
same_pair p q = nat_eq p.0 q.0 && nat_eq p.1 q.1

-- the classes of g's restrictions by x = 0 and x = 1, among the entries over T
unfoldable pub class_pair : ℕ → List Function → List ℕ → ℕ → Function → ℕ × ℕ
class_pair n F T x g = (
  class_of (entries n F T) (table n (restrict x false g)),
  class_of (entries n F T) (table n (restrict x true g)),
)

-- how many distinct pairs of unequal classes the functions over T and x have: of each function, the classes of its two restrictions by x
unfoldable pub unequal_pairs : ℕ → List Function → List ℕ → ℕ → ℕ
unequal_pairs n F T x = distinct_count same_pair
    (filter (λ (p : ℕ × ℕ). not (nat_eq p.0 p.1)) (map (class_pair n F T x) (reach F (outside n (x ∷ T)))))
