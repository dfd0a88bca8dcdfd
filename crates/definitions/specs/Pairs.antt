-- Pairs of variables that an order must keep: of a pair (a, b), a must stand above b. Which pairs are listed counts, not how often or where.
--     is_above a b xs, keeps P order      whether a stands above b; whether the order keeps the pairs
--     is_lawful P S, are_lawful P xs      whether S has b wherever it has a; whether each bottom part of a list is such a set
--     tops P S      the members that may stand on top of S
--     IsFirstOrder n P order, IsGreedy n P mask order      the first of the orders that keep the pairs; an order that takes the smallest top each time
--     Leads P a b, IsPairCycle P v      pairs lead from a to b; the least variable from which they lead back to itself
--     sorted_pairs n P      the pairs, by rising a and then b, each once
use Rattle.std.specs.Prelude.{◌≡◌, ◌≢◌, ℕ, ◌-◌, ◌^◌, ◌<◌, ◌≤◌, Bool, true, false, not, if◌then◌else◌, ◌&&◌, ◌||◌, List, [], ◌∷◌, map, IsTrue, nat_eq}
use Rattle.std.specs.List.{list_all, list_any, flat_map, filter, All}
use Rattle.std.specs.Ordering.{nat_cmp}
use Rattle.std.specs.Cmp.Lexicographic.{slice_cmp}
use Rattle.std.specs.declared.cmp.Ordering.TheVariants.{Greater}
use Rattle.definitions.specs.Orders.{IsOrder, has, variables, members, without}

-- a pair (a, b) of variables: a must stand above b
abbrev pub Pair : Type 0
Pair = ℕ × ℕ

-- whether (a, b) is among the pairs
abbrev pub has_pair : List Pair → ℕ → ℕ → Bool
has_pair P a b = list_any (λ (p : Pair). nat_eq a p.0 && nat_eq b p.1) P

-- whether a stands above b: b is among those below a
unfoldable pub is_above : ℕ → ℕ → List ℕ → Bool
is_above a b [] = false
is_above a b (x ∷ below) = if nat_eq a x then has below b else is_above a b below

-- whether the order keeps the pairs
unfoldable pub keeps : List Pair → List ℕ → Bool
keeps P order = list_all (λ (p : Pair). is_above p.0 p.1 order) P

-- the order keeps the pairs
abbrev pub Keeps : List Pair → List ℕ → Type 0
Keeps P order = IsTrue (keeps P order)

-- whether the set is lawful: it has b wherever it has a
unfoldable pub is_lawful : List Pair → List ℕ → Bool
is_lawful P S = list_all (λ (p : Pair). not (has S p.0) || has S p.1) P

-- the members that may stand on top of a lawful S: those without which S stays lawful
abbrev pub tops : List Pair → List ℕ → List ℕ
tops P S = filter (λ x. is_lawful P (without x S)) S

-- whether each bottom part of a list, top first, is a lawful set
unfoldable pub are_lawful : List Pair → List ℕ → Bool
are_lawful P [] = true
are_lawful P (x ∷ below) = is_lawful P (x ∷ below) && are_lawful P below

-- the first of the orders that keep the pairs, compared as lists of numbers
pub record IsFirstOrder (n : ℕ) (P : List Pair) (order : List ℕ) : Type 0 where
  pub is_order : IsOrder n order
  pub kept : Keeps P order
  pub first : (other : List ℕ) → IsOrder n other → Keeps P other → slice_cmp nat_cmp order other ≢ Greater

-- an order read off the pairs: the smallest member without which the set stays lawful comes next from the top, and leaves the set
unfoldable pub IsGreedy : ℕ → List Pair → ℕ → List ℕ → Type 0
IsGreedy n P mask [] = mask ≡ 0
IsGreedy n P mask (x ∷ order) =
    IsTrue (has (tops P (members n mask)) x) × ((y : ℕ) → IsTrue (has (tops P (members n mask)) y) → x ≤ y)
    × IsGreedy n P (mask - 2 ^ x) order

-- pairs lead from a to b, by one or more steps
pub data Leads (P : List Pair) : ℕ → ℕ → Type 0 where
  by_one : {a b : ℕ} → IsTrue (has_pair P a b) → Leads P a b
  by_more : {a b c : ℕ} → IsTrue (has_pair P a b) → Leads P b c → Leads P a c

-- v is the least variable from which pairs lead back to itself
pub record IsPairCycle (P : List Pair) (v : ℕ) : Type 0 where
  pub back : Leads P v v
  pub least : (u : ℕ) → u < v → Leads P u u → ⊥

-- each number of each pair is below n
abbrev pub AreBelow : ℕ → List Pair → Type 0
AreBelow n P = All (λ (p : Pair). (p.0 < n) × (p.1 < n)) P

-- the pairs of variables below n, by rising a and then b, each once
unfoldable pub sorted_pairs : ℕ → List Pair → List Pair
sorted_pairs n P = flat_map (λ a. map (λ b. (a, b)) (filter (has_pair P a) (variables n))) (variables n)
